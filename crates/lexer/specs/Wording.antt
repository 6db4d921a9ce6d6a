-- What is read of a word: digits, a numeral, a name, and the command that it is.
use Rattle.std.specs.Prelude.{◌≡◌, ℕ, ◌^◌, min, true, false, List, ℤ, Some, None, Ok, Err, Option, Result, ◌≢◌}
use Rattle.std.specs.Str.Parse.{digits_value}
use Rattle.codes.specs.declared.Refusal.{Refusal}
use Rattle.codes.specs.declared.Refusal.TheVariants.{Word, Range}
use Rattle.arithmetic.specs.Numbers.{in_range}
use Rattle.syntax.specs.declared.Name.{Name}
use Rattle.syntax.specs.declared.Event.{Event}
use Rattle.syntax.specs.declared.Event.TheVariants.{Numeral as numeral_event, Name as name_event}
use Rattle.grammar.specs.Words.{digital, name_word, Numeral, Meaning, number, command, huge, strange}
use Rattle.lexer.specs.declared.words.NumeralError.{NumeralError}
use Rattle.lexer.specs.declared.words.NumeralError.TheVariants.{OutOfRange, NoNumeral}

-- the value of a word of digits, or 2 ^ 32 if the value is larger; a word that is not made of digits has no value
abbrev pub Digits : List ℕ → Option ℕ → Type 0
Digits w None = digital w ≡ false
Digits w (Some v) = (digital w ≡ true) × (v ≡ min (digits_value 10 w) (2 ^ 32))

-- a number, if it is one of the language
abbrev pub Within : ℤ → Result ℤ NumeralError → Type 0
Within z (Ok y) = (y ≡ z) × (in_range z ≡ true)
Within z (Err OutOfRange) = in_range z ≡ false
Within z (Err NoNumeral) = ⊥

-- the number that a numeral is, that a numeral is out of range, or that a word is no numeral
abbrev pub Reads : List ℕ → Result ℤ NumeralError → Type 0
Reads w (Ok z) = Numeral w z × (in_range z ≡ true)
Reads w (Err OutOfRange) = (z : ℤ) × Numeral w z × (in_range z ≡ false)
Reads w (Err NoNumeral) = (z : ℤ) → Numeral w z → ⊥

-- the name that has this word, or that none has
abbrev pub Names : List ℕ → Option Name → Type 0
Names w (Some o) = w ≡ name_word o
Names w None = (o : Name) → w ≢ name_word o

-- the command that a word with this meaning is, or its refusal
abbrev pub told : Meaning → Result Event Refusal
told (number z) = Ok (numeral_event z)
told (command o) = Ok (name_event o)
told huge = Err Range
told strange = Err Word
