-- Reading refuses what the grammar has not, at the first wrong token.
use Rattle.std.proofs.Common.{◌≡◌, ℕ, suc, ◌+◌, ◌<◌, ◌≤◌, true, false, ◌&&◌, ltb, leb, ◌⊎◌, List, [], ◌∷◌, length, Some, None, sym, refl, ap, ◌∙◌, subst, inl, inr, ⊎_elim, arith}
use Rattle.std.specs.Str.Parse.{digits_value}
use Rattle.std.specs.Str.{bytes_eq}
use Rattle.std.proofs.lemmas.Slice.Eq.{bytes_eq-Decides}
use Rattle.std.proofs.lemmas.Bool.{and_parts, and_from, both_ways, cond_both, ltb-true, ltb-false, leb-true, le-leb}
use Rattle.std.proofs.lemmas.Bool.Decides.{not_from_Decides}
use Rattle.codes.specs.declared.Refusal.{Refusal}
use Rattle.codes.specs.declared.Refusal.TheVariants.{Long, Word, Range, Bracket, Head, Crowd}
use Rattle.syntax.specs.Bounds.{most_bytes, most_commands, most_parameters}
use Rattle.syntax.specs.Code.{Code, end, numeral, name, sequence, append, commands, source}
use Rattle.syntax.specs.Events.{Draft, draft, blank, commands_around, admit}
use Rattle.syntax.proofs.Growing.{commands-append}
use Rattle.grammar.specs.Tokens.{Token, opening, closing, word, tokens}
use Rattle.grammar.specs.Words.{Meaning, number, command, huge, strange, meaning, digital, name_word}
use Rattle.grammar.specs.Reading.{Verdict, refused, fed, shut, follow, after, next, body, postfix, counted, third, second, program, parse}
use Rattle.grammar.specs.Grammar.{Refused, cut_off, trailing, unknown, beyond, crowding_numeral, crowding_name, crowding_sequence, after_numeral, after_name, after_opening, after_closing, Heads, heads, Headless, no_opening, no_postfix, no_count, Refuses, unheaded, headed, RefusalOf, RefusesAtTheFirstWrongToken}
use Rattle.grammar.proofs.Words.{Says, says, numeral_means, numeral_huge, name_means, means_strange, strange_no_numeral, strange_no_name}
use Rattle.grammar.proofs.Reading.{body-goes, body-wrong, numeral_goes, name_goes, opening_goes, numeral_crowds, name_crowds, opening_crowds, parse_short, parse_long, never_both, same_refused}

-- what the rules refuse, reading refuses

trail : (k : ℕ) (a : Code) (out : List Code) (t : Token) (ts : List Token) → length out ≡ 0 → body k (closing ∷ t ∷ ts) (draft a out) ≡ refused Bracket (t ∷ ts)
trail k a [] t ts l = refl
trail k a (b ∷ out) t ts l = absurd (omega arith)

-- after a closing bracket with others open around it
shuts : (k n d : ℕ) (e : Refusal) (us : List Token) (a : Code) (out : List Code) (ts : List Token) → ((a : Code) (out : List Code) → commands a + commands_around out ≡ n → length out ≡ d → body k ts (draft a out) ≡ refused e us) → commands a + commands_around out ≡ n → length out ≡ suc d → body k (closing ∷ ts) (draft a out) ≡ refused e us
shuts k n d e us a [] ts ih m l = absurd (omega arith)
shuts k n d e us a (b ∷ out) ts ih m l =
    ih (append b (sequence a end)) out (omega (arith, commands-append b (sequence a end))) (omega arith)

refuses : {n d : ℕ} {ts us : List Token} {e : Refusal} → Refused n d ts e us → (k : ℕ) (a : Code) (out : List Code) → commands a + commands_around out ≡ n → length out ≡ d → body k ts (draft a out) ≡ refused e us
refuses cut_off k a out m l = refl
refuses (trailing {n} {t} {ts}) k a out m l = trail k a out t ts l
refuses (unknown {n} {d} {w} {ts} p q) k a out m l =
    body-wrong k (word w) ts (draft a out) Word (ap (λ x. follow x (draft a out)) (means_strange w p q))
refuses (beyond {n} {d} {w} {z} {ts} p q) k a out m l =
    body-wrong k (word w) ts (draft a out) Range (ap (λ x. follow x (draft a out)) (numeral_huge p q))
refuses (crowding_numeral {n} {d} {w} {z} {ts} p q f) k a out m l =
    body-wrong k (word w) ts (draft a out) Crowd (numeral_crowds a out w z (numeral_means p q) (omega arith))
refuses (crowding_name {n} {d} o {ts} f) k a out m l =
    body-wrong k (word (name_word o)) ts (draft a out) Crowd (name_crowds a out (name_word o) o (name_means o) (omega arith))
refuses (crowding_sequence {n} {d} {ts} f) k a out m l =
    body-wrong k opening ts (draft a out) Crowd (opening_crowds a out (omega arith))
refuses (after_numeral {n} {d} {w} {z} {ts} p q f r) k a out m l =
    body-goes k (word w) ts (draft a out) (draft (append a (numeral z end)) out) (numeral_goes a out w z (numeral_means p q) (omega arith))
    ∙ refuses r k (append a (numeral z end)) out (omega (arith, commands-append a (numeral z end))) l
refuses (after_name {n} {d} o {ts} f r) k a out m l =
    body-goes k (word (name_word o)) ts (draft a out) (draft (append a (name o end)) out) (name_goes a out (name_word o) o (name_means o) (omega arith))
    ∙ refuses r k (append a (name o end)) out (omega (arith, commands-append a (name o end))) l
refuses (after_opening {n} {d} {ts} f r) k a out m l =
    body-goes k opening ts (draft a out) (draft end (a ∷ out)) (opening_goes a out (omega arith))
    ∙ refuses r k end (a ∷ out) (omega arith) (omega arith)
refuses (after_closing {n} {d} {ts} {us} {e} r) k a out m l = shuts k n d e us a out ts (refuses r k) m l

-- what reading refuses, the rules refuse

abbrev Rules : ℕ → List Token → Type 0
Rules k ts = (n : ℕ) (a : Code) (out : List Code) (e : Refusal) (us : List Token) → commands a + commands_around out ≡ n → body k ts (draft a out) ≡ refused e us → Refused n (length out) ts e us

-- a rule at the refusal that was found
found : {n d : ℕ} {ts us vs : List Token} {e f : Refusal} → Refused n d ts e us → refused e us ≡ refused f vs → Refused n d ts f vs
found {n} {d} {ts} {us} {vs} {e} {f} r h =
    let same = same_refused e f us vs h in
    subst (Refused n d ts f) same.1 (subst (λ x. Refused n d ts x us) same.0 r)

roomed : (k n : ℕ) (d : Draft) (t : Token) (ts : List Token) (e : Refusal) (us : List Token) → next k (fed (admit n d)) t ts (body k ts) ≡ refused e us → ((n < most_commands) × (body k ts d ≡ refused e us)) ⊎ ((most_commands ≤ n) × (refused Crowd (t ∷ ts) ≡ refused e us))
roomed k n d t ts e us =
    cond_both (ltb n most_commands) (Some d) None
    (λ o. next k (fed o) t ts (body k ts) ≡ refused e us → ((n < most_commands) × (body k ts d ≡ refused e us)) ⊎ ((most_commands ≤ n) × (refused Crowd (t ∷ ts) ≡ refused e us)))
    (λ b h. inl (ltb-true n most_commands b, h))
    (λ b h. inr (ltb-false n most_commands b, h))

module _ (k : ℕ) (ts : List Token) (ih : Rules k ts) (n : ℕ) (a : Code) (out : List Code) (e : Refusal) (us : List Token) (m : commands a + commands_around out ≡ n) where
  rules_word : (w : List ℕ) (x : Meaning) → meaning w ≡ x → Says w x → next k (follow x (draft a out)) (word w) ts (body k ts) ≡ refused e us → Refused n (length out) (word w ∷ ts) e us
  rules_word w (number z) i s h =
      ⊎_elim (λ r. after_numeral s.0 s.1 (omega (arith, r.0)) (ih (suc n) (append a (numeral z end)) out e us (omega (arith, commands-append a (numeral z end))) r.1))
      (λ r. found (crowding_numeral s.0 s.1 (omega (arith, r.0))) r.1)
      (roomed k (commands a + commands_around out) (draft (append a (numeral z end)) out) (word w) ts e us h)
  rules_word w (command o) i s h =
      ⊎_elim
      (λ r. subst (λ v. Refused n (length out) (word v ∷ ts) e us) (sym s)
      (after_name o (omega (arith, r.0)) (ih (suc n) (append a (name o end)) out e us (omega (arith, commands-append a (name o end))) r.1)))
      (λ r. found (subst (λ v. Refused n (length out) (word v ∷ ts) Crowd (word v ∷ ts)) (sym s) (crowding_name o (omega (arith, r.0)))) r.1)
      (roomed k (commands a + commands_around out) (draft (append a (name o end)) out) (word w) ts e us h)
  rules_word w huge i s h = found (beyond s.1 s.2) h
  rules_word w strange i s h = found (unknown (strange_no_numeral w i) (strange_no_name w i)) h

  rules_opening : next k (fed (admit (commands a + commands_around out) (draft end (a ∷ out)))) opening ts (body k ts) ≡ refused e us → Refused n (length out) (opening ∷ ts) e us
  rules_opening h =
      ⊎_elim (λ r. after_opening (omega (arith, r.0)) (ih (suc n) end (a ∷ out) e us (omega arith) r.1))
      (λ r. found (crowding_sequence (omega (arith, r.0))) r.1)
      (roomed k (commands a + commands_around out) (draft end (a ∷ out)) opening ts e us h)

rules_last : (k n : ℕ) (a : Code) (ts : List Token) (e : Refusal) (us : List Token) → after k a ts ≡ refused e us → Refused n 0 (closing ∷ ts) e us
rules_last k n a [] e us h = absurd (never_both e us (source k a) (sym h))
rules_last k n a (t ∷ ts) e us h = found trailing h

rules_closing : (k : ℕ) (ts : List Token) → Rules k ts → (n : ℕ) (a : Code) (out : List Code) (e : Refusal) (us : List Token) → commands a + commands_around out ≡ n → next k (shut a out) closing ts (body k ts) ≡ refused e us → Refused n (length out) (closing ∷ ts) e us
rules_closing k ts ih n a [] e us m h = rules_last k n a ts e us h
rules_closing k ts ih n a (b ∷ out) e us m h =
    after_closing (ih n (append b (sequence a end)) out e us (omega (arith, commands-append b (sequence a end))) h)

rules : (k : ℕ) (ts : List Token) → Rules k ts
rules k [] n a out e us m h = found cut_off h
rules k (opening ∷ ts) n a out e us m h = rules_opening k ts (rules k ts) n a out e us m h
rules k (closing ∷ ts) n a out e us m h = rules_closing k ts (rules k ts) n a out e us m h
rules k (word w ∷ ts) n a out e us m h = rules_word k ts (rules k ts) n a out e us m w (meaning w) refl (says w) h

-- the first three tokens

-- they are right and reading goes on, or one is wrong
data Header (ts : List Token) : Verdict → Type 0 where
  good : {k : ℕ} {us : List Token} → Heads ts k us → Header ts (body k us blank)
  bad : {us : List Token} → Headless ts us → Header ts (refused Head us)

other_word : (w v : List ℕ) (ts us : List Token) → ◌≡◌ {A = List Token} (word w ∷ ts) (word v ∷ us) → w ≡ v
other_word w v ts us e = cc

no_token : (t : Token) (us : List Token) → ◌≡◌ {A = List Token} [] (t ∷ us) → ⊥
no_token t us e = let z : ◌≡◌ {A = ℕ} 0 1 = cc in omega arith

opening_no_word : (w : List ℕ) (ts us : List Token) → ◌≡◌ {A = List Token} (opening ∷ ts) (word w ∷ us) → ⊥
opening_no_word w ts us e = let z : ◌≡◌ {A = ℕ} 0 1 = cc in omega arith

closing_no_word : (w : List ℕ) (ts us : List Token) → ◌≡◌ {A = List Token} (closing ∷ ts) (word w ∷ us) → ⊥
closing_no_word w ts us e = let z : ◌≡◌ {A = ℕ} 0 1 = cc in omega arith

closing_no_opening : (ts us : List Token) → ◌≡◌ {A = List Token} (closing ∷ ts) (opening ∷ us) → ⊥
closing_no_opening ts us e = let z : ◌≡◌ {A = ℕ} 0 1 = cc in omega arith

no_count-at : (w : List ℕ) → (digital w && leb (digits_value 10 w) most_parameters) ≡ false → (v : List ℕ) → w ≡ v → digital v ≡ true → digits_value 10 v ≤ most_parameters → ⊥
no_count-at w t v e d l =
    let y : (digital v && leb (digits_value 10 v) most_parameters) ≡ true = and_from _ _ d (le-leb (digits_value 10 v) most_parameters l) in
    both_ways (digital v && leb (digits_value 10 v) most_parameters) (ap (λ x. digital x && leb (digits_value 10 x) most_parameters) (sym e) ∙ t) y

header-counted : (w : List ℕ) (ts : List Token) → Header (opening ∷ word postfix ∷ word w ∷ ts) (counted w ts)
header-counted w ts =
    cond_both (digital w && leb (digits_value 10 w) most_parameters) (body (digits_value 10 w) ts blank) (refused Head (word w ∷ ts)) (Header (opening ∷ word postfix ∷ word w ∷ ts))
    (λ t. let both = and_parts (digital w) (leb (digits_value 10 w) most_parameters) t in good (heads both.0 (leb-true (digits_value 10 w) most_parameters both.1)))
    (λ t. bad (no_count (λ v us e d l. no_count-at w t v (other_word w v ts us e) d l)))

header-third : (ts : List Token) → Header (opening ∷ word postfix ∷ ts) (third ts)
header-third [] = bad (no_count (λ w us e d l. no_token (word w) us e))
header-third (opening ∷ ts) = bad (no_count (λ w us e d l. opening_no_word w ts us e))
header-third (closing ∷ ts) = bad (no_count (λ w us e d l. closing_no_word w ts us e))
header-third (word w ∷ ts) = header-counted w ts

header-second : (ts : List Token) → Header (opening ∷ ts) (second ts)
header-second [] = bad (no_postfix (λ us e. no_token (word postfix) us e))
header-second (opening ∷ ts) = bad (no_postfix (λ us e. opening_no_word postfix ts us e))
header-second (closing ∷ ts) = bad (no_postfix (λ us e. closing_no_word postfix ts us e))
header-second (word w ∷ ts) =
    cond_both (bytes_eq w postfix) (third ts) (refused Head (word w ∷ ts)) (Header (opening ∷ word w ∷ ts))
    (λ t. subst (λ w. Header (opening ∷ word w ∷ ts) (third ts)) (sym ((bytes_eq-Decides w postfix).0 t)) (header-third ts))
    (λ t. bad (no_postfix (λ us e. not_from_Decides _ (bytes_eq-Decides w postfix) t (other_word w postfix ts us e))))

word-no_opening : (w : List ℕ) (ts us : List Token) → ◌≡◌ {A = List Token} (word w ∷ ts) (opening ∷ us) → ⊥
word-no_opening w ts us e = opening_no_word w us ts (sym e)

header : (ts : List Token) → Header ts (program ts)
header [] = bad (no_opening (λ us e. no_token opening us e))
header (opening ∷ ts) = header-second ts
header (closing ∷ ts) = bad (no_opening (λ us e. closing_no_opening ts us e))
header (word w ∷ ts) = bad (no_opening (λ us e. word-no_opening w ts us e))

heads_once : {ts us vs xs : List Token} {k m : ℕ} {e : Refusal} → Heads ts k us → Heads ts m vs → Refused 0 0 vs e xs → body k us blank ≡ refused e xs
heads_once (heads {w} d l) (heads f m) r = refuses r (digits_value 10 w) end [] refl refl

headed_or_not : {ts us vs : List Token} {k : ℕ} → Heads ts k us → Headless ts vs → ⊥
headed_or_not (heads {w} {ts} d l) (no_opening f) = f (word postfix ∷ word w ∷ ts) refl
headed_or_not (heads {w} {ts} d l) (no_postfix f) = f (word w ∷ ts) refl
headed_or_not (heads {w} {ts} d l) (no_count f) = f w ts refl d l

headless_once : {ts us vs : List Token} → Headless ts us → Headless ts vs → us ≡ vs
headless_once (no_opening f) (no_opening g) = refl
headless_once (no_opening f) (no_postfix {ts} g) = absurd (f ts refl)
headless_once (no_opening f) (no_count {ts} g) = absurd (f (word postfix ∷ ts) refl)
headless_once (no_postfix {ts} f) (no_opening g) = absurd (g ts refl)
headless_once (no_postfix f) (no_postfix g) = refl
headless_once (no_postfix f) (no_count {ts} g) = absurd (f ts refl)
headless_once (no_count {ts} f) (no_opening g) = absurd (g (word postfix ∷ ts) refl)
headless_once (no_count {ts} f) (no_postfix g) = absurd (g ts refl)
headless_once (no_count f) (no_count g) = refl

refuses_program : {ts us : List Token} {r : Verdict} {e : Refusal} → Header ts r → Refuses ts e us → r ≡ refused e us
refuses_program (good h) (unheaded x) = absurd (headed_or_not h x)
refuses_program (good h) (headed g r) = heads_once h g r
refuses_program (bad x) (unheaded y) = ap (refused Head) (headless_once x y)
refuses_program (bad x) (headed g r) = absurd (headed_or_not g x)

program_refuses : {ts : List Token} {r : Verdict} (e : Refusal) (us : List Token) → Header ts r → r ≡ refused e us → Refuses ts e us
program_refuses e us (good {k} {us = vs} h) i = headed h (rules k vs 0 end [] e us refl i)
program_refuses {ts} e us (bad {us = vs} x) i =
    let same = same_refused Head e vs us i in
    subst (Refuses ts e) same.1 (subst (λ f. Refuses ts f vs) same.0 (unheaded x))

parse-refused : (t : List ℕ) (e : Refusal) (us : List Token) → parse t ≡ refused e us → RefusalOf t e us
unfolding parse
parse-refused t e us =
    cond_both (ltb most_bytes (length t)) (refused Long []) (program (tokens t)) (λ x. x ≡ refused e us → RefusalOf t e us)
    (λ b h. let same = same_refused Long e [] us h in inl (ltb-true most_bytes (length t) b, sym same.0, sym same.1))
    (λ b h. inr (ltb-false most_bytes (length t) b, program_refuses e us (header (tokens t)) h))

pub refuses_at_the_first_wrong_token : RefusesAtTheFirstWrongToken
refuses_at_the_first_wrong_token t e us = (
  parse-refused t e us,
  ⊎_elim (λ h. parse_long t h.0 ∙ ap (λ f. refused f []) (sym h.1) ∙ ap (refused e) (sym h.2))
      (λ h. parse_short t h.0 ∙ refuses_program (header (tokens t)) h.1),
)
