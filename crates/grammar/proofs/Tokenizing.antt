-- A text falls into its tokens, and into no others.
use Rattle.std.proofs.Common.{◌≡◌, ℕ, ◌<◌, true, List, [], ◌∷◌, ◌++◌, length, sym, refl, ap, ◌∙◌, subst, append-nil, arith}
use Rattle.std.specs.List.{AllByRecursion}
use Rattle.std.proofs.lemmas.Bool.{both_ways}
use Rattle.std.proofs.lemmas.Bool.Decides.{nat_tests}
use Rattle.grammar.specs.Tokens.{Token, opening, closing, word, white, kind, space, left, right, letter, Kind, Cut, put, lex, joined, tokens, Letter, Stops, Lexes, nothing, skipped, opened, closed, run, TokensAreLongestRuns}
use Rattle.grammar.proofs.Steps.{white_space, letter_from, put-stop}

-- a run of letters
abbrev pub Letters : List ℕ → Type 0
Letters w = AllByRecursion (λ c. kind c ≡ letter) w

-- a run of letters that is a word
abbrev pub Wordy : List ℕ → Type 0
Wordy w = (0 < length w) × Letters w

pub lex-word : (w x : List ℕ) → Letters w → lex (w ++ x) ≡ (w ++ (lex x).0, (lex x).1)
lex-word [] x h = refl
lex-word (c ∷ w) x h = rw (h.0, lex-word w x h.1) refl

pub lex-then : (w x : List ℕ) (ts : List Token) → Wordy w → lex x ≡ ([], ts) → tokens (w ++ x) ≡ word w ∷ ts
lex-then [] x ts h e = absurd (omega (arith, h.0))
lex-then (c ∷ w) x ts h e = rw (lex-word (c ∷ w) x h.1, e, append-nil w) refl

from_letter : (c : ℕ) → Letter c → kind c ≡ letter
from_letter c h = letter_from c h.1 h.2 h.0

letters : (w : List ℕ) → AllByRecursion Letter w → Letters w
letters [] h = tt
letters (c ∷ w) h = (from_letter c h.0, letters w h.1)

to_letter : (c : ℕ) → kind c ≡ letter → Letter c
to_letter c h = (grind (arith, nat_tests), (λ e. grind (arith, nat_tests)), λ e. grind (arith, nat_tests))

to_white : (c : ℕ) → kind c ≡ space → white c ≡ true
to_white c h = grind (arith, nat_tests)

to_left : (c : ℕ) → kind c ≡ left → 40 ≡ c
to_left c h = grind (arith, nat_tests)

to_right : (c : ℕ) → kind c ≡ right → 41 ≡ c
to_right c h = grind (arith, nat_tests)

stops-lex : (t : List ℕ) (ts : List Token) → Stops t → tokens t ≡ ts → lex t ≡ ([], ts)
stops-lex [] ts s e = ap (λ us. ([], us)) e
stops-lex (c ∷ t) ts s e = put-stop (kind c) c (lex t) (λ h. s (to_letter c h)) ∙ ap (λ us. ([], us)) e

lexed : {t : List ℕ} {ts : List Token} → Lexes t ts → tokens t ≡ ts
lexed nothing = refl
lexed (skipped {c} {t} h x) = ap (λ k. joined (put k c (lex t))) (white_space c h) ∙ lexed x
lexed (opened x) = ap (λ us. opening ∷ us) (lexed x)
lexed (closed x) = ap (λ us. closing ∷ us) (lexed x)
lexed (run {w} {t} {ts} l h s x) = lex-then w t ts (l, letters w h) (stops-lex t ts s (lexed x))

-- a text that is cut after its first letters, with how the rest falls into tokens
data Cutting : List ℕ → Cut → Type 0 where
  cutting : (w : List ℕ) {u : List ℕ} {ts : List Token} → AllByRecursion Letter w → Stops u → Lexes u ts → Cutting (w ++ u) (w, ts)

whole : {t : List ℕ} {x : Cut} → Cutting t x → Lexes t (joined x)
whole (cutting [] l s x) = x
whole (cutting (c ∷ w) l s x) = run (omega arith) l s x

longer : {c : ℕ} {t : List ℕ} {x : Cut} → Letter c → Cutting t x → Cutting (c ∷ t) (c ∷ x.0, x.1)
longer {c} h (cutting w l s x) = cutting (c ∷ w) (h, l) s x

put_cut : (c : ℕ) (t : List ℕ) (x : Cut) → Cutting t x → (k : Kind) → kind c ≡ k → Cutting (c ∷ t) (put k c x)
put_cut c t x h space e =
    cutting [] tt (λ l. both_ways (white c) l.0 (to_white c e)) (skipped (to_white c e) (whole h))
put_cut c t x h left e =
    cutting [] tt (λ l. l.1 (sym (to_left c e))) (subst (λ c. Lexes (c ∷ t) (opening ∷ joined x)) (to_left c e) (opened (whole h)))
put_cut c t x h right e =
    cutting [] tt (λ l. l.2 (sym (to_right c e))) (subst (λ c. Lexes (c ∷ t) (closing ∷ joined x)) (to_right c e) (closed (whole h)))
put_cut c t x h letter e = longer (to_letter c e) h

cuts : (t : List ℕ) → Cutting t (lex t)
cuts [] = cutting [] tt tt nothing
cuts (c ∷ t) = put_cut c t (lex t) (cuts t) (kind c) refl

pub tokens_are_longest_runs : TokensAreLongestRuns
tokens_are_longest_runs t ts = ((λ e. subst (Lexes t) e (whole (cuts t))), lexed)
