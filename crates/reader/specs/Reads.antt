-- What reading a text answers, and what the record holds then.
use Rattle.std.specs.Prelude.{◌≡◌, ℕ, ◌<◌, ◌≤◌, false, List, [], ◌∷◌, length, drop, Some, None, Ok, Err, Option, Result, ◌⊎◌, slice_index}
use Rattle.std.specs.declared.ops.ControlFlow.{ControlFlow}
use Rattle.std.specs.declared.ops.ControlFlow.TheVariants.{Continue, Break}
use Rattle.codes.specs.declared.Refusal.{Refusal}
use Rattle.codes.specs.declared.Refusal.TheVariants.{Head}
use Rattle.syntax.specs.Bounds.{most_bytes, working_places}
use Rattle.syntax.specs.Code.{Code, Source}
use Rattle.syntax.specs.Events.{Draft, draft, blank}
use Rattle.grammar.specs.Tokens.{Token as Lexeme, white, tokens}
use Rattle.grammar.specs.Reading.{Verdict, taken, refused, Step, goes, ends, wrong, body, reading}
use Rattle.grammar.specs.Grammar.{Spells}
use Rattle.lexer.specs.declared.lexer.Token.{Token}
use Rattle.lexer.specs.Lexing.{lexeme}
use Rattle.program.specs.declared.arity.Arity.{Arity}
use Rattle.program.specs.declared.record.Program.{Program}
use Rattle.program.specs.Programs.{program_of}
use Rattle.reader.specs.declared.reading.ReadError.{ReadError}

-- the place where the first of some tokens begins in a text: the byte there is not white, and the tokens from there on are
-- these. If there are no tokens, there is no place
abbrev pub Spot : List ℕ → List Lexeme → Option ℕ → Type 0
Spot text [] None = Unit {0}
Spot text [] (Some n) = ⊥
Spot text (t ∷ ts) None = ⊥
Spot text (t ∷ ts) (Some n) = (n < length text) × (white (slice_index text n) ≡ false) × (tokens (drop n text) ≡ t ∷ ts)

-- an error that tells the refusal and the place of the first wrong token
abbrev pub Blames : List ℕ → Verdict → ReadError → Type 0
Blames text (taken p) x = ⊥
Blames text (refused e ts) x = (x.refusal ≡ e) × Spot text ts x.at

-- an answer that tells a verdict: the record of the program, or the error
abbrev pub Says : List ℕ → Verdict → Result Program ReadError → Type 0
Says text v (Ok p) = v ≡ taken (program_of p)
Says text v (Err x) = Blames text v x

-- what `read` answers and leaves, with so many places lent: the record of the program that the text is, or the error and
-- the record as it was
abbrev pub ReadAs : ℕ → List ℕ → Program → Program → Result (Unit {0}) ReadError → Type 0
ReadAs places text before after (Ok u) = reading places text ≡ taken (program_of after)
ReadAs places text before after (Err x) = (after ≡ before) × Blames text (reading places text) x

-- what `read` answers, by the grammar: a text is accepted exactly if memory suffices, the text is short enough and its
-- tokens spell a program, and the record is that program
abbrev pub Exactly : ℕ → List ℕ → Program → Result (Unit {0}) ReadError → Type 0
Exactly places text after (Ok u) = (working_places ≤ places) × (length text ≤ most_bytes) × Spells (tokens text) (program_of after)
Exactly places text after (Err x) = working_places ≤ places → length text ≤ most_bytes → (p : Source) → Spells (tokens text) p → ⊥

-- an error that blames no token
abbrev pub Unplaced : Refusal → ReadError → Type 0
Unplaced e x = (x.refusal ≡ e) × (x.at ≡ None)

-- the next token gives what is wanted of it, and the tokens us follow it; or the head is refused at it
abbrev pub Expected : {T : Type 0} → (Token → Option T → Type 0) → List ℕ → List Lexeme → List Lexeme → Result T ReadError → Type 0
Expected gives text ts us (Ok x) = (t : Token) × (ts ≡ lexeme t ∷ us) × gives t (Some x)
Expected gives text ts us (Err x) = (x.refusal ≡ Head) × Spot text ts x.at × ((ts ≡ []) ⊎ ((t : Token) × (ts ≡ lexeme t ∷ us) × gives t None))

-- what the first three tokens lead to: reading goes on with the tokens us, which are the commands, or the head is refused
abbrev pub Headed : List ℕ → Verdict → List Lexeme → Result Arity ReadError → Type 0
Headed text v us (Ok a) = v ≡ body a.count us blank
Headed text v us (Err x) = Blames text v x

-- what a token does to a draft that a builder holds: reading goes on, the token is the program's last bracket, or it is wrong
abbrev pub Turned : Step → Draft → Draft → Result (ControlFlow (Unit {0}) (Unit {0})) Refusal → Type 0
Turned s old new (Ok (Continue u)) = s ≡ goes new
Turned s old new (Ok (Break u)) = (c : Code) × (s ≡ ends c) × (old ≡ draft c []) × (new ≡ old)
Turned s old new (Err e) = s ≡ wrong e
