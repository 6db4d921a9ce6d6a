-- How a text is written byte by byte, and what it is made of.
use Rattle.std.specs.Prelude.{◌≡◌, ℕ, ◌+◌, ◌-◌, ◌^◌, Bool, true, false, List, [], ◌∷◌, ◌++◌, codes, decimal, min, slice_set}
use Rattle.std.specs.List.{fold}
use Rattle.syntax.specs.declared.Event.{Event}
use Rattle.syntax.specs.declared.Event.TheVariants.{Numeral, Name, Open, Close}
use Rattle.grammar.specs.Tokens.{closing}
use Rattle.grammar.specs.Printing.{spelled, lay}
use Rattle.printer.specs.declared.text.Text.{Text}

-- the bytes that are lent to a text, as they stand, and how long the text is
abbrev pub state : Text → List ℕ × ℕ
state t = (t.out.now, t.len)

-- one more byte: its place is set if it is there, and the length counts up to the last number that fits
abbrev pub added : List ℕ × ℕ → ℕ → List ℕ × ℕ
added s b = (slice_set s.0 s.1 b, min (s.1 + 1) (2 ^ 64 - 1))

-- some bytes were added to a text, one after the other
pub record Adds (old : Text) (bs : List ℕ) (new : Text) : Type 0 where
  pub text : state new ≡ fold added (state old) bs
  pub same : new.out.ghost_name ≡ old.out.ghost_name

-- lent bytes with a text written to their front, as far as there is room
abbrev pub written : List ℕ → List ℕ → List ℕ
written lent text = (fold added (lent, 0) text).0

-- how a text begins: its bracket, its first word and the number of parameters
abbrev pub heading : ℕ → List ℕ
heading k = codes "(postfix " ++ decimal k

-- how it goes on: some events, and the program's last bracket; the flag says that they stand close behind a bracket that opens
abbrev pub ending : Bool → List Event → List ℕ
ending tight es = lay tight (spelled es ++ (closing ∷ []))

-- whether what follows an event stands close behind it
abbrev pub close_behind : Event → Bool
close_behind (Numeral k) = false
close_behind (Name o) = false
close_behind Open = true
close_behind Close = false
