-- Reading, one token further.
use Rattle.std.proofs.Common.{◌≡◌, ℕ, ◌+◌, ◌<◌, ◌≤◌, true, false, ltb, List, [], ◌∷◌, length, ℤ, Some, None, Option, refl, ap, ◌∙◌, arith}
use Rattle.std.specs.Str.Parse.{digits_value}
use Rattle.std.specs.Str.{bytes_eq}
use Rattle.std.proofs.lemmas.Slice.Eq.{bytes_eq-Decides}
use Rattle.std.proofs.lemmas.Bool.{cond-true, cond-false, cond_both, and_from, lt-ltb, le-ltb, le-leb, lt-leb}
use Rattle.codes.specs.declared.Refusal.{Refusal}
use Rattle.codes.specs.declared.Refusal.TheVariants.{Long, Head, Crowd, Space}
use Rattle.syntax.specs.declared.Event.TheVariants.{Close}
use Rattle.syntax.specs.declared.Name.{Name}
use Rattle.syntax.specs.Bounds.{most_bytes, most_commands, most_parameters, working_places}
use Rattle.syntax.specs.Code.{Code, end, numeral, name, append, commands, Source}
use Rattle.syntax.specs.Events.{Draft, draft, blank, commands_around, admit, feed, finished}
use Rattle.syntax.proofs.Growing.{admits}
use Rattle.grammar.specs.Tokens.{Token, opening, closing, word, tokens}
use Rattle.grammar.specs.Words.{number, command, meaning, digital}
use Rattle.grammar.specs.Reading.{taken, refused, goes, ends, wrong, fed, follow, step, after, next, body, postfix, counted, third, program, parse, reading}

-- one token

pub body-goes : (k : ℕ) (t : Token) (ts : List Token) (d e : Draft) → step d t ≡ goes e → body k (t ∷ ts) d ≡ body k ts e
body-goes k t ts d e h = ap (λ s. next k s t ts (body k ts)) h

pub body-wrong : (k : ℕ) (t : Token) (ts : List Token) (d : Draft) (e : Refusal) → step d t ≡ wrong e → body k (t ∷ ts) d ≡ refused e (t ∷ ts)
body-wrong k t ts d e h = ap (λ s. next k s t ts (body k ts)) h

-- a command, after n others

pub fed-room : (n : ℕ) (d : Draft) → n < most_commands → fed (admit n d) ≡ goes d
fed-room n d l = ap fed (admits n d l)

pub fed_full : (n : ℕ) (d : Draft) → most_commands ≤ n → fed (admit n d) ≡ wrong Crowd
fed_full n d l = ap fed (cond-false (ltb n most_commands) (Some d) None (le-ltb n most_commands l))

module _ (a : Code) (out : List Code) where
  pub numeral_goes : (w : List ℕ) (z : ℤ) → meaning w ≡ number z → commands a + commands_around out < most_commands → step (draft a out) (word w) ≡ goes (draft (append a (numeral z end)) out)
  numeral_goes w z m l = ap (λ x. follow x (draft a out)) m ∙ fed-room (commands a + commands_around out) (draft (append a (numeral z end)) out) l

  pub name_goes : (w : List ℕ) (o : Name) → meaning w ≡ command o → commands a + commands_around out < most_commands → step (draft a out) (word w) ≡ goes (draft (append a (name o end)) out)
  name_goes w o m l = ap (λ x. follow x (draft a out)) m ∙ fed-room (commands a + commands_around out) (draft (append a (name o end)) out) l

  pub opening_goes : commands a + commands_around out < most_commands → step (draft a out) opening ≡ goes (draft end (a ∷ out))
  opening_goes l = fed-room (commands a + commands_around out) (draft end (a ∷ out)) l

  pub numeral_crowds : (w : List ℕ) (z : ℤ) → meaning w ≡ number z → most_commands ≤ commands a + commands_around out → step (draft a out) (word w) ≡ wrong Crowd
  numeral_crowds w z m l = ap (λ x. follow x (draft a out)) m ∙ fed_full (commands a + commands_around out) (draft (append a (numeral z end)) out) l

  pub name_crowds : (w : List ℕ) (o : Name) → meaning w ≡ command o → most_commands ≤ commands a + commands_around out → step (draft a out) (word w) ≡ wrong Crowd
  name_crowds w o m l = ap (λ x. follow x (draft a out)) m ∙ fed_full (commands a + commands_around out) (draft (append a (name o end)) out) l

  pub opening_crowds : most_commands ≤ commands a + commands_around out → step (draft a out) opening ≡ wrong Crowd
  opening_crowds l = fed_full (commands a + commands_around out) (draft end (a ∷ out)) l

-- a token, by what the event does that it stands for

pub fed-none : (o : Option Draft) → o ≡ None → fed o ≡ wrong Crowd
fed-none o h = ap fed h

-- the first three tokens

-- a text

pub parse_short : (t : List ℕ) → length t ≤ most_bytes → parse t ≡ program (tokens t)
unfolding parse
parse_short t h = cond-false _ (refused Long []) (program (tokens t)) (le-ltb most_bytes (length t) h)

pub parse_long : (t : List ℕ) → most_bytes < length t → parse t ≡ refused Long []
unfolding parse
parse_long t h = cond-true _ (refused Long []) (program (tokens t)) (lt-ltb most_bytes (length t) h)

pub reading_in_few_places : (places : ℕ) (t : List ℕ) → places < working_places → reading places t ≡ refused Space []
unfolding reading
reading_in_few_places places t h = cond-true _ (refused Space []) (parse t) (lt-ltb places working_places h)

pub reading_in_enough_places : (places : ℕ) (t : List ℕ) → working_places ≤ places → reading places t ≡ parse t
unfolding reading
reading_in_enough_places places t h = cond-false _ (refused Space []) (parse t) (le-ltb places working_places h)

-- answers differ

pub never_both : (e : Refusal) (us : List Token) (p : Source) → refused e us ≡ taken p → ⊥
never_both e us p h = let z : ◌≡◌ {A = ℕ} 0 1 = cc in omega arith

pub same_taken : (p q : Source) → taken p ≡ taken q → p ≡ q
same_taken p q h = cc

pub same_refused : (e f : Refusal) (us vs : List Token) → refused e us ≡ refused f vs → (e ≡ f) × (us ≡ vs)
same_refused e f us vs h = (cc, cc)
