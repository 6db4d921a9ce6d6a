-- Which tokens are a program, which are not and from which token on, and what reading and printing promise.
use Rattle.std.specs.Prelude.{◌≡◌, ℕ, suc, ◌<◌, ◌≤◌, true, false, ◌⊎◌, List, [], ◌∷◌, ◌++◌, length, ℤ, ◌≢◌}
use Rattle.std.specs.Str.Parse.{digits_value}
use Rattle.codes.specs.declared.Refusal.{Refusal}
use Rattle.codes.specs.declared.Refusal.TheVariants.{Long, Word, Range, Bracket, Head, Crowd}
use Rattle.arithmetic.specs.Numbers.{in_range}
use Rattle.syntax.specs.declared.Name.{Name}
use Rattle.syntax.specs.Bounds.{most_bytes, most_commands, most_parameters, working_places}
use Rattle.syntax.specs.Code.{Code, end, numeral, name, sequence, commands, Source, source, Bounded}
use Rattle.grammar.specs.Tokens.{Token, opening, closing, word, tokens}
use Rattle.grammar.specs.Words.{digital, name_word, Numeral}
use Rattle.grammar.specs.Reading.{postfix, taken, refused, parse, reading}
use Rattle.grammar.specs.Printing.{print}

-- the tokens of a chain of commands: none; or a numeral in range, a name, or a chain in brackets, and then the other commands
pub data Commands : List Token → Code → Type 0 where
  none : Commands [] end
  numeral_then : {w : List ℕ} {z : ℤ} {ts : List Token} {q : Code} → Numeral w z → in_range z ≡ true → Commands ts q → Commands (word w ∷ ts) (numeral z q)
  name_then : {o : Name} {ts : List Token} {q : Code} → Commands ts q → Commands (word (name_word o) ∷ ts) (name o q)
  sequence_then : {us ts : List Token} {b q : Code} → Commands us b → Commands ts q → Commands (opening ∷ (us ++ (closing ∷ ts))) (sequence b q)

-- the tokens of a program: in brackets, the word postfix, the number of parameters as digits, and the commands
pub data Spells : List Token → Source → Type 0 where
  program_of : {w : List ℕ} {ts : List Token} {q : Code} → digital w ≡ true → digits_value 10 w ≤ most_parameters → Commands ts q → commands q ≤ most_commands → Spells (opening ∷ word postfix ∷ word w ∷ (ts ++ (closing ∷ []))) (source (digits_value 10 w) q)

-- tokens that are no commands up to a program's last bracket, after n commands and inside d brackets: why, and the tokens
-- from the first wrong one on
pub data Refused : ℕ → ℕ → List Token → Refusal → List Token → Type 0 where
  -- the text ends too early
  cut_off : {n d : ℕ} → Refused n d [] Bracket []
  -- a token follows the last bracket
  trailing : {n : ℕ} {t : Token} {ts : List Token} → Refused n 0 (closing ∷ t ∷ ts) Bracket (t ∷ ts)
  -- neither a numeral nor a name
  unknown : {n d : ℕ} {w : List ℕ} {ts : List Token} → ((z : ℤ) → Numeral w z → ⊥) → ((o : Name) → w ≢ name_word o) → Refused n d (word w ∷ ts) Word (word w ∷ ts)
  -- a numeral out of range
  beyond : {n d : ℕ} {w : List ℕ} {z : ℤ} {ts : List Token} → Numeral w z → in_range z ≡ false → Refused n d (word w ∷ ts) Range (word w ∷ ts)
  -- one command too many
  crowding_numeral : {n d : ℕ} {w : List ℕ} {z : ℤ} {ts : List Token} → Numeral w z → in_range z ≡ true → most_commands ≤ n → Refused n d (word w ∷ ts) Crowd (word w ∷ ts)
  crowding_name : {n d : ℕ} (o : Name) {ts : List Token} → most_commands ≤ n → Refused n d (word (name_word o) ∷ ts) Crowd (word (name_word o) ∷ ts)
  crowding_sequence : {n d : ℕ} {ts : List Token} → most_commands ≤ n → Refused n d (opening ∷ ts) Crowd (opening ∷ ts)
  -- the first token is right, and a later one is wrong
  after_numeral : {n d : ℕ} {w : List ℕ} {z : ℤ} {ts us : List Token} {e : Refusal} → Numeral w z → in_range z ≡ true → n < most_commands → Refused (suc n) d ts e us → Refused n d (word w ∷ ts) e us
  after_name : {n d : ℕ} (o : Name) {ts us : List Token} {e : Refusal} → n < most_commands → Refused (suc n) d ts e us → Refused n d (word (name_word o) ∷ ts) e us
  after_opening : {n d : ℕ} {ts us : List Token} {e : Refusal} → n < most_commands → Refused (suc n) (suc d) ts e us → Refused n d (opening ∷ ts) e us
  after_closing : {n d : ℕ} {ts us : List Token} {e : Refusal} → Refused n d ts e us → Refused n (suc d) (closing ∷ ts) e us

-- the first three tokens are as they should be: the number of parameters, and the tokens after them
pub data Heads : List Token → ℕ → List Token → Type 0 where
  heads : {w : List ℕ} {ts : List Token} → digital w ≡ true → digits_value 10 w ≤ most_parameters → Heads (opening ∷ word postfix ∷ word w ∷ ts) (digits_value 10 w) ts

-- the first three tokens are not as they should be: the tokens from the first wrong one on, none where it is absent
pub data Headless : List Token → List Token → Type 0 where
  no_opening : {ts : List Token} → ((us : List Token) → ts ≢ opening ∷ us) → Headless ts ts
  no_postfix : {ts : List Token} → ((us : List Token) → ts ≢ word postfix ∷ us) → Headless (opening ∷ ts) ts
  no_count : {ts : List Token} → ((w : List ℕ) (us : List Token) → ts ≡ word w ∷ us → digital w ≡ true → digits_value 10 w ≤ most_parameters → ⊥) → Headless (opening ∷ word postfix ∷ ts) ts

-- tokens that are no program: why, and the tokens from the first wrong one on
pub data Refuses : List Token → Refusal → List Token → Type 0 where
  unheaded : {ts us : List Token} → Headless ts us → Refuses ts Head us
  headed : {k : ℕ} {ts vs us : List Token} {e : Refusal} → Heads ts k vs → Refused 0 0 vs e us → Refuses ts e us

-- a text that is no program: it is too long, or its tokens are no program
abbrev pub RefusalOf : List ℕ → Refusal → List Token → Type 0
RefusalOf t e us = ((most_bytes < length t) × (e ≡ Long) × (us ≡ [])) ⊎ ((length t ≤ most_bytes) × Refuses (tokens t) e us)

-- a text is read as a program exactly if it is short enough and its tokens are that program's
abbrev pub AcceptsTheGrammar : Type 0
AcceptsTheGrammar = (t : List ℕ) (p : Source) → (parse t ≡ taken p → (length t ≤ most_bytes) × Spells (tokens t) p) × ((length t ≤ most_bytes) × Spells (tokens t) p → parse t ≡ taken p)

-- every other text is refused, for what is wrong with its first wrong token
abbrev pub RefusesAtTheFirstWrongToken : Type 0
RefusesAtTheFirstWrongToken = (t : List ℕ) (e : Refusal) (us : List Token) → (parse t ≡ refused e us → RefusalOf t e us) × (RefusalOf t e us → parse t ≡ refused e us)

-- what is printed is read as the program that was printed
abbrev pub PrintReadsBack : Type 0
PrintReadsBack = (p : Source) → Bounded p → parse (print p) ≡ taken p

-- the same, with enough places to work in
abbrev pub PrintReadsBackInEnoughPlaces : Type 0
PrintReadsBackInEnoughPlaces = (p : Source) (places : ℕ) → Bounded p → working_places ≤ places → reading places (print p) ≡ taken p

-- what is printed is no longer than a text may be
abbrev pub PrintIsShort : Type 0
PrintIsShort = (p : Source) → Bounded p → length (print p) ≤ most_bytes

-- what is read is within the bounds of the language
abbrev pub ReadingIsBounded : Type 0
ReadingIsBounded = (t : List ℕ) (p : Source) → parse t ≡ taken p → Bounded p

-- tokens are those of one program at most
abbrev pub OneReading : Type 0
OneReading = (ts : List Token) (p q : Source) → Spells ts p → Spells ts q → p ≡ q

-- two programs have two texts
abbrev pub PrintsDiffer : Type 0
PrintsDiffer = (p q : Source) → Bounded p → Bounded q → print p ≡ print q → p ≡ q
