-- How a program is written: shortest numerals, one blank between tokens, none after an opening bracket or before a closing one.
use Rattle.std.specs.Prelude.{ℕ, Bool, true, false, List, [], ◌∷◌, ◌++◌, decimal}
use Rattle.std.specs.Fmt.{signed_decimal}
use Rattle.syntax.specs.declared.Event.{Event}
use Rattle.syntax.specs.declared.Event.TheVariants.{Numeral, Name, Open, Close}
use Rattle.syntax.specs.Code.{Code, Source, source}
use Rattle.syntax.specs.Events.{events}
use Rattle.grammar.specs.Tokens.{Token, opening, closing, word}
use Rattle.grammar.specs.Words.{name_word}
use Rattle.grammar.specs.Reading.{postfix}

-- the token that stands for an event
abbrev pub event_token : Event → Token
event_token (Numeral k) = word (signed_decimal k)
event_token (Name o) = word (name_word o)
event_token Open = opening
event_token Close = closing

-- the tokens that stand for some events
abbrev pub spelled : List Event → List Token
spelled [] = []
spelled (e ∷ es) = event_token e ∷ spelled es

-- the tokens of a chain
abbrev pub spell : Code → List Token
spell c = spelled (events c)

-- the tokens of a program
abbrev pub spelling : Source → List Token
spelling (source k c) = opening ∷ word postfix ∷ word (decimal k) ∷ (spell c ++ (closing ∷ []))

-- a blank before a text, unless it stands close behind an opening bracket
abbrev pub gap : Bool → List ℕ → List ℕ
gap true t = t
gap false t = 32 ∷ t

-- tokens laid out as bytes; the flag says that they begin the text or stand behind an opening bracket
abbrev pub lay : Bool → List Token → List ℕ
lay tight [] = []
lay tight (opening ∷ ts) = gap tight (40 ∷ lay true ts)
lay tight (closing ∷ ts) = 41 ∷ lay false ts
lay tight (word w ∷ ts) = gap tight (w ++ lay false ts)

-- a program's text
unfoldable pub print : Source → List ℕ
print p = lay true (spelling p)
