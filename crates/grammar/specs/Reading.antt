-- How a text is read, token by token, up to the program's last bracket or to the first token that is wrong.
use Rattle.std.specs.Prelude.{ℕ, cond, ◌&&◌, List, [], ◌∷◌, length, Some, None, codes, Option, nat_le, nat_lt}
use Rattle.std.specs.Str.Parse.{digits_value}
use Rattle.std.specs.Str.{bytes_eq}
use Rattle.codes.specs.declared.Refusal.{Refusal}
use Rattle.codes.specs.declared.Refusal.TheVariants.{Long, Word, Range, Bracket, Head, Crowd, Space}
use Rattle.syntax.specs.declared.Event.TheVariants.{Numeral, Name, Open}
use Rattle.syntax.specs.Bounds.{most_bytes, most_parameters, working_places}
use Rattle.syntax.specs.Code.{Code, end, sequence, append, Source, source}
use Rattle.syntax.specs.Events.{Draft, draft, blank, feed}
use Rattle.grammar.specs.Tokens.{Token, opening, closing, word, tokens}
use Rattle.grammar.specs.Words.{Meaning, number, command, huge, strange, meaning, digital}

-- what reading answers: the program, or why not and the tokens from the wrong one on (none where the text ends too early)
pub data Verdict : Type 0 where
  taken : Source → Verdict
  refused : Refusal → List Token → Verdict

-- what one token does: reading goes on, it is the program's last bracket, or it is wrong
pub data Step : Type 0 where
  goes : Draft → Step
  ends : Code → Step
  wrong : Refusal → Step

-- a draft with one command more, or none because there are too many
abbrev pub fed : Option Draft → Step
fed None = wrong Crowd
fed (Some d) = goes d

-- the innermost chain becomes a sequence of the chain around it, or the whole program where there is none around it
abbrev pub shut : Code → List Code → Step
shut c [] = ends c
shut c (b ∷ cs) = goes (draft (append b (sequence c end)) cs)

-- a closing bracket
abbrev pub close : Draft → Step
close (draft c cs) = shut c cs

-- a word, by its meaning
abbrev pub follow : Meaning → Draft → Step
follow (number z) d = fed (feed (Numeral z) d)
follow (command o) d = fed (feed (Name o) d)
follow huge d = wrong Range
follow strange d = wrong Word

-- a token
abbrev pub step : Draft → Token → Step
step d opening = fed (feed Open d)
step d closing = close d
step d (word w) = follow (meaning w) d

-- nothing may follow the program's last bracket
abbrev pub after : ℕ → Code → List Token → Verdict
after k c [] = taken (source k c)
after k c (t ∷ ts) = refused Bracket (t ∷ ts)

-- what the step at the token t, with ts behind it, leads to
abbrev pub next : ℕ → Step → Token → List Token → (Draft → Verdict) → Verdict
next k (goes d) t ts go = go d
next k (ends c) t ts go = after k c ts
next k (wrong e) t ts go = refused e (t ∷ ts)

-- the commands of a program with k parameters, from a draft on
abbrev pub body : ℕ → List Token → Draft → Verdict
body k [] d = refused Bracket []
body k (t ∷ ts) d = next k (step d t) t ts (body k ts)

-- the word that every program begins with
abbrev pub postfix : List ℕ
postfix = codes "postfix"

-- a word in the place of the third token: digits alone, and not more parameters than there may be
abbrev pub counted : List ℕ → List Token → Verdict
counted w ts = cond (digital w && nat_le (digits_value 10 w) most_parameters) (body (digits_value 10 w) ts blank) (refused Head (word w ∷ ts))

-- the third token: how many parameters there are
abbrev pub third : List Token → Verdict
third [] = refused Head []
third (opening ∷ ts) = refused Head (opening ∷ ts)
third (closing ∷ ts) = refused Head (closing ∷ ts)
third (word w ∷ ts) = counted w ts

-- the second token: the word postfix
abbrev pub second : List Token → Verdict
second [] = refused Head []
second (opening ∷ ts) = refused Head (opening ∷ ts)
second (closing ∷ ts) = refused Head (closing ∷ ts)
second (word w ∷ ts) = cond (bytes_eq w postfix) (third ts) (refused Head (word w ∷ ts))

-- a program's tokens, the first of which is an opening bracket
abbrev pub program : List Token → Verdict
program [] = refused Head []
program (opening ∷ ts) = second ts
program (closing ∷ ts) = refused Head (closing ∷ ts)
program (word w ∷ ts) = refused Head (word w ∷ ts)

-- a text, unless it is too long
unfoldable pub parse : List ℕ → Verdict
parse text = cond (nat_lt most_bytes (length text)) (refused Long []) (program (tokens text))

-- reading a text with so many places lent to work in
unfoldable pub reading : ℕ → List ℕ → Verdict
reading places text = cond (nat_lt places working_places) (refused Space []) (parse text)
