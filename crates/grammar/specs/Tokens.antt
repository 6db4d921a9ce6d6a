-- A text's tokens: round brackets, and words that are as long as they can be. Blanks, tabs and line ends only separate.
use Rattle.std.specs.Prelude.{◌≡◌, ℕ, ◌-◌, ◌<◌, Bool, true, false, cond, ◌||◌, List, [], ◌∷◌, ◌++◌, length, take, drop, ◌==◌, ◌≢◌}
use Rattle.std.specs.List.{AllByRecursion}

-- a bracket, or a word by its bytes
pub data Token : Type 0 where
  opening closing : Token
  word : List ℕ → Token

-- what a byte is to the tokens
pub data Kind : Type 0 where
  space left right letter : Kind

-- a tab, a line feed, a carriage return or a blank
abbrev pub white : ℕ → Bool
white c = c == 9 || c == 10 || c == 13 || c == 32

-- 40 and 41 are the brackets; whatever is neither a bracket nor white is a letter of a word
abbrev pub kind : ℕ → Kind
kind c = cond (c == 40) left (cond (c == 41) right (cond (white c) space letter))

-- the letters that a text begins with, and the tokens after them
abbrev pub Cut : Type 0
Cut = List ℕ × List Token

-- a run of letters, if there is one, as a word before the tokens that follow it
abbrev pub flush : List ℕ → List Token → List Token
flush [] ts = ts
flush (c ∷ w) ts = word (c ∷ w) ∷ ts

-- all tokens of a text that is cut
abbrev pub joined : Cut → List Token
joined x = flush x.0 x.1

-- one byte more, in front
abbrev pub put : Kind → ℕ → Cut → Cut
put space c x = ([], joined x)
put left c x = ([], opening ∷ joined x)
put right c x = ([], closing ∷ joined x)
put letter c x = (c ∷ x.0, x.1)

-- a text, cut after the letters that it begins with
abbrev pub lex : List ℕ → Cut
lex [] = ([], [])
lex (c ∷ cs) = put (kind c) c (lex cs)

-- the tokens of a text
abbrev pub tokens : List ℕ → List Token
tokens t = joined (lex t)

-- a byte of a word
abbrev pub Letter : ℕ → Type 0
Letter c = (white c ≡ false) × (c ≢ 40) × (c ≢ 41)

-- a text at which no word goes on
abbrev pub Stops : List ℕ → Type 0
Stops [] = Unit {0}
Stops (c ∷ t) = Letter c → ⊥

-- how a text falls into tokens: white bytes are skipped, a bracket stands for itself, and a word is a run of letters that
-- goes on as far as there are any
pub data Lexes : List ℕ → List Token → Type 0 where
  nothing : Lexes [] []
  skipped : {c : ℕ} {t : List ℕ} {ts : List Token} → white c ≡ true → Lexes t ts → Lexes (c ∷ t) ts
  opened : {t : List ℕ} {ts : List Token} → Lexes t ts → Lexes (40 ∷ t) (opening ∷ ts)
  closed : {t : List ℕ} {ts : List Token} → Lexes t ts → Lexes (41 ∷ t) (closing ∷ ts)
  run : {w t : List ℕ} {ts : List Token} → 0 < length w → AllByRecursion Letter w → Stops t → Lexes t ts → Lexes (w ++ t) (word w ∷ ts)

-- a text falls into its tokens, and into no others
abbrev pub TokensAreLongestRuns : Type 0
TokensAreLongestRuns = (t : List ℕ) (ts : List Token) → (tokens t ≡ ts → Lexes t ts) × (Lexes t ts → tokens t ≡ ts)

-- the letters that stand from place `from` on reach at least up to place i
abbrev pub RunTo : List ℕ → ℕ → ℕ → Type 0
RunTo xs from i = lex (drop from xs) ≡ (take (i - from) (drop from xs) ++ (lex (drop i xs)).0, (lex (drop i xs)).1)
