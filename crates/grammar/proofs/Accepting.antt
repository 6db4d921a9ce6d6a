-- Reading accepts exactly what the grammar has.
use Rattle.std.proofs.Common.{◌≡◌, ℕ, ◌+◌, ◌<◌, ◌≤◌, true, ◌&&◌, ltb, leb, List, [], ◌∷◌, ◌++◌, length, ℤ, Some, None, sym, ap, ◌∙◌, subst, append_assoc, arith}
use Rattle.std.specs.Str.Parse.{digits_value}
use Rattle.std.specs.Str.{bytes_eq}
use Rattle.std.proofs.lemmas.Slice.Eq.{bytes_eq-Decides}
use Rattle.std.proofs.lemmas.Bool.{and_parts, cond_both, ltb-true, ltb-false, leb-true, le-leb}
use Rattle.codes.specs.declared.Refusal.TheVariants.{Long, Word, Range, Bracket, Head, Crowd}
use Rattle.arithmetic.specs.Numbers.{in_range}
use Rattle.syntax.specs.declared.Name.{Name}
use Rattle.syntax.specs.Bounds.{most_bytes, most_commands, most_parameters}
use Rattle.syntax.specs.Code.{Code, end, numeral, name, sequence, append, commands, Source, source, Ranged, Bounded}
use Rattle.syntax.specs.Events.{Draft, draft, blank, commands_around, admit}
use Rattle.syntax.proofs.Growing as growing
use Rattle.syntax.proofs.Growing.{append-end, commands-append}
use Rattle.grammar.specs.Tokens.{Token, opening, closing, word, tokens}
use Rattle.grammar.specs.Words.{Meaning, number, command, huge, strange, meaning, digital, name_word, Numeral}
use Rattle.grammar.specs.Reading.{taken, refused, fed, shut, follow, after, next, body, postfix, counted, third, second, program, parse}
use Rattle.grammar.specs.Printing.{print}
use Rattle.grammar.specs.Grammar.{Commands, none, numeral_then, name_then, sequence_then, Spells, program_of, AcceptsTheGrammar, PrintReadsBack, PrintReadsBackInEnoughPlaces, ReadingIsBounded, OneReading, PrintsDiffer}
use Rattle.grammar.proofs.Words.{Says, says, numeral_means, name_means}
use Rattle.grammar.proofs.Reading.{body-goes, numeral_goes, name_goes, opening_goes, parse_short, reading_in_enough_places, never_both, same_taken}
use Rattle.grammar.proofs.Printing.{spells_spelling, tokens-print, print_is_short}

-- what the grammar has, is read

-- a chain's tokens add the chain
pub reads : {ts : List Token} {q : Code} → Commands ts q → (k : ℕ) (a : Code) (out : List Code) (us : List Token) → commands q + (commands a + commands_around out) ≤ most_commands → body k (ts ++ us) (draft a out) ≡ body k us (draft (append a q) out)
reads none k a out us l = ap (λ x. body k us (draft x out)) (sym (append-end a))
reads (numeral_then {w} {z} {ts} {q} d s c) k a out us l =
    body-goes k (word w) (ts ++ us) (draft a out) (draft (append a (numeral z end)) out) (numeral_goes a out w z (numeral_means d s) (omega arith))
    ∙ reads c k (append a (numeral z end)) out us (omega (arith, commands-append a (numeral z end)))
    ∙ ap (λ x. body k us (draft x out)) (growing.append_assoc a (numeral z end) q)
reads (name_then {o} {ts} {q} c) k a out us l =
    body-goes k (word (name_word o)) (ts ++ us) (draft a out) (draft (append a (name o end)) out) (name_goes a out (name_word o) o (name_means o) (omega arith))
    ∙ reads c k (append a (name o end)) out us (omega (arith, commands-append a (name o end)))
    ∙ ap (λ x. body k us (draft x out)) (growing.append_assoc a (name o end) q)
reads (sequence_then {us = vs} {ts} {b} {q} d c) k a out us l =
    body-goes k opening ((vs ++ (closing ∷ ts)) ++ us) (draft a out) (draft end (a ∷ out)) (opening_goes a out (omega arith))
    ∙ ap (λ x. body k x (draft end (a ∷ out))) (append_assoc vs (closing ∷ ts) us)
    ∙ reads d k end (a ∷ out) (closing ∷ (ts ++ us)) (omega arith)
    ∙ reads c k (append a (sequence b end)) out us (omega (arith, commands-append a (sequence b end)))
    ∙ ap (λ x. body k us (draft x out)) (growing.append_assoc a (sequence b end) q)

pub taken_from_spells : {ts : List Token} {p : Source} → Spells ts p → program ts ≡ taken p
taken_from_spells (program_of {w} {ts} {q} d v c s) =
    rw (d, le-leb (digits_value 10 w) most_parameters v) (reads c (digits_value 10 w) end [] (closing ∷ []) (omega arith))

-- what is read, the grammar has

-- from a draft to the program's end, where the program's chain is r
data Closes : Code → List Code → List Token → Code → Type 0 where
  last : {a q r : Code} {ts : List Token} → Commands ts q → append a q ≡ r → Closes a [] (ts ++ (closing ∷ [])) r
  inner : {a b q x r : Code} {out : List Code} {ts us : List Token} → Commands ts q → append a q ≡ x → Closes (append b (sequence x end)) out us r → Closes a (b ∷ out) (ts ++ (closing ∷ us)) r

more_numeral : {w : List ℕ} {z : ℤ} (a : Code) {r : Code} {out : List Code} {ts : List Token} → Numeral w z → in_range z ≡ true → Closes (append a (numeral z end)) out ts r → Closes a out (word w ∷ ts) r
more_numeral {z} a d s (last {q} c e) =
    last (numeral_then d s c) (sym (growing.append_assoc a (numeral z end) q) ∙ e)
more_numeral {z} a d s (inner {q} c e y) =
    inner (numeral_then d s c) (sym (growing.append_assoc a (numeral z end) q) ∙ e) y

more_name : (o : Name) (a : Code) {r : Code} {out : List Code} {ts : List Token} → Closes (append a (name o end)) out ts r → Closes a out (word (name_word o) ∷ ts) r
more_name o a (last {q} c e) = last (name_then c) (sym (growing.append_assoc a (name o end) q) ∙ e)
more_name o a (inner {q} c e y) = inner (name_then c) (sym (growing.append_assoc a (name o end) q) ∙ e) y

more_sequence : (a b : Code) {r : Code} {out : List Code} {us ts : List Token} → Commands us b → Closes (append a (sequence b end)) out ts r → Closes a out (opening ∷ (us ++ (closing ∷ ts))) r
more_sequence a b {r} {us} d (last {q} {ts} c e) =
    subst (λ ts. Closes a [] (opening ∷ ts) r) (append_assoc us (closing ∷ ts) (closing ∷ []))
    (last (sequence_then d c) (sym (growing.append_assoc a (sequence b end) q) ∙ e))
more_sequence a b {r} {us} d (inner {b = b'} {q} {out} {ts} {us = vs} c e y) =
    subst (λ ts. Closes a (b' ∷ out) (opening ∷ ts) r) (append_assoc us (closing ∷ ts) (closing ∷ vs))
    (inner (sequence_then d c) (sym (growing.append_assoc a (sequence b end) q) ∙ e) y)

more_opening : (a : Code) {r : Code} {out : List Code} {ts : List Token} → Closes end (a ∷ out) ts r → Closes a out (opening ∷ ts) r
more_opening a {r} (inner {q} {x} {out} {ts} {us} c e y) =
    more_sequence a q c (subst (λ x. Closes (append a (sequence x end)) out us r) (sym e) y)

-- what reading says of a draft, if it takes a program
data Done (k : ℕ) (a : Code) (out : List Code) (ts : List Token) : Source → Type 0 where
  done : {r : Code} → Closes a out ts r → commands r ≤ most_commands → Done k a out ts (source k r)

further : {k : ℕ} {a b : Code} {out out' : List Code} {ts us : List Token} {p : Source} → ((r : Code) → Closes b out' us r → Closes a out ts r) → Done k b out' us p → Done k a out ts p
further f (done {r} x l) = done (f r x) l

abbrev Sound : ℕ → List Token → Type 0
Sound k ts = (a : Code) (out : List Code) (p : Source) → commands a + commands_around out ≤ most_commands → body k ts (draft a out) ≡ taken p → Done k a out ts p

roomy : (k n : ℕ) (d : Draft) (t : Token) (ts : List Token) (p : Source) → next k (fed (admit n d)) t ts (body k ts) ≡ taken p → (n < most_commands) × (body k ts d ≡ taken p)
roomy k n d t ts p =
    cond_both (ltb n most_commands) (Some d) None (λ o. next k (fed o) t ts (body k ts) ≡ taken p → (n < most_commands) × (body k ts d ≡ taken p))
    (λ h e. (ltb-true n most_commands h, e))
    (λ h e. absurd (never_both Crowd (t ∷ ts) p e))

module _ (k : ℕ) (ts : List Token) (ih : Sound k ts) (a : Code) (out : List Code) (p : Source) where
  sound_word : (w : List ℕ) (x : Meaning) → Says w x → next k (follow x (draft a out)) (word w) ts (body k ts) ≡ taken p → Done k a out (word w ∷ ts) p
  sound_word w (number z) h e =
      let r = roomy k (commands a + commands_around out) (draft (append a (numeral z end)) out) (word w) ts p e in
      further (λ _. more_numeral a h.0 h.1) (ih (append a (numeral z end)) out p (omega (arith, r.0, commands-append a (numeral z end))) r.1)
  sound_word w (command o) h e =
      let r = roomy k (commands a + commands_around out) (draft (append a (name o end)) out) (word w) ts p e in
      subst (λ w. Done k a out (word w ∷ ts) p) (sym h)
      (further (λ _. more_name o a) (ih (append a (name o end)) out p (omega (arith, r.0, commands-append a (name o end))) r.1))
  sound_word w huge h e = absurd (never_both Range (word w ∷ ts) p e)
  sound_word w strange h e = absurd (never_both Word (word w ∷ ts) p e)

  sound_opening : next k (fed (admit (commands a + commands_around out) (draft end (a ∷ out)))) opening ts (body k ts) ≡ taken p → Done k a out (opening ∷ ts) p
  sound_opening e =
      let r = roomy k (commands a + commands_around out) (draft end (a ∷ out)) opening ts p e in
      further (λ _. more_opening a) (ih end (a ∷ out) p (omega (arith, r.0)) r.1)

sound_last : (k : ℕ) (a : Code) (ts : List Token) (p : Source) → commands a ≤ most_commands → after k a ts ≡ taken p → Done k a [] (closing ∷ ts) p
sound_last k a [] p l e = subst (Done k a [] (closing ∷ [])) (same_taken _ p e) (done (last none (append-end a)) l)
sound_last k a (t ∷ ts) p l e = absurd (never_both Bracket (t ∷ ts) p e)

sound_closing : (k : ℕ) (ts : List Token) → Sound k ts → (a : Code) (out : List Code) (p : Source) → commands a + commands_around out ≤ most_commands → next k (shut a out) closing ts (body k ts) ≡ taken p → Done k a out (closing ∷ ts) p
sound_closing k ts ih a [] p l e = sound_last k a ts p (omega arith) e
sound_closing k ts ih a (b ∷ out) p l e =
    further (λ _. inner none (append-end a)) (ih (append b (sequence a end)) out p (omega (arith, commands-append b (sequence a end))) e)

sound : (k : ℕ) (ts : List Token) → Sound k ts
sound k [] a out p l e = absurd (never_both Bracket [] p e)
sound k (opening ∷ ts) a out p l e = sound_opening k ts (sound k ts) a out p e
sound k (closing ∷ ts) a out p l e = sound_closing k ts (sound k ts) a out p l e
sound k (word w ∷ ts) a out p l e = sound_word k ts (sound k ts) a out p w (meaning w) (says w) e

whole : {w : List ℕ} {ts : List Token} {p : Source} → digital w ≡ true → digits_value 10 w ≤ most_parameters → Done (digits_value 10 w) end [] ts p → Spells (opening ∷ word postfix ∷ word w ∷ ts) p
whole {w} d v (done {r} (last {q} {ts} c e) l) =
    subst (λ x. Spells (opening ∷ word postfix ∷ word w ∷ (ts ++ (closing ∷ []))) (source (digits_value 10 w) x)) e
    (program_of d v c (subst (λ x. commands x ≤ most_commands) (sym e) l))

sound_counted : (w : List ℕ) (ts : List Token) (p : Source) → counted w ts ≡ taken p → Spells (opening ∷ word postfix ∷ word w ∷ ts) p
sound_counted w ts p =
    cond_both (digital w && leb (digits_value 10 w) most_parameters) (body (digits_value 10 w) ts blank) (refused Head (word w ∷ ts)) (λ x. x ≡ taken p → Spells (opening ∷ word postfix ∷ word w ∷ ts) p)
    (λ t e. let both = and_parts (digital w) (leb (digits_value 10 w) most_parameters) t in whole both.0 (leb-true (digits_value 10 w) most_parameters both.1) (sound (digits_value 10 w) ts end [] p (omega arith) e))
    (λ t e. absurd (never_both Head (word w ∷ ts) p e))

sound_third : (ts : List Token) (p : Source) → third ts ≡ taken p → Spells (opening ∷ word postfix ∷ ts) p
sound_third [] p e = absurd (never_both Head [] p e)
sound_third (opening ∷ ts) p e = absurd (never_both Head (opening ∷ ts) p e)
sound_third (closing ∷ ts) p e = absurd (never_both Head (closing ∷ ts) p e)
sound_third (word w ∷ ts) p e = sound_counted w ts p e

sound_second : (ts : List Token) (p : Source) → second ts ≡ taken p → Spells (opening ∷ ts) p
sound_second [] p e = absurd (never_both Head [] p e)
sound_second (opening ∷ ts) p e = absurd (never_both Head (opening ∷ ts) p e)
sound_second (closing ∷ ts) p e = absurd (never_both Head (closing ∷ ts) p e)
sound_second (word w ∷ ts) p e =
    cond_both (bytes_eq w postfix) (third ts) (refused Head (word w ∷ ts)) (λ x. x ≡ taken p → Spells (opening ∷ word w ∷ ts) p)
    (λ t e. subst (λ w. Spells (opening ∷ word w ∷ ts) p) (sym ((bytes_eq-Decides w postfix).0 t)) (sound_third ts p e))
    (λ t e. absurd (never_both Head (word w ∷ ts) p e))
    e

pub spells_from_taken : (ts : List Token) (p : Source) → program ts ≡ taken p → Spells ts p
spells_from_taken [] p e = absurd (never_both Head [] p e)
spells_from_taken (opening ∷ ts) p e = sound_second ts p e
spells_from_taken (closing ∷ ts) p e = absurd (never_both Head (closing ∷ ts) p e)
spells_from_taken (word w ∷ ts) p e = absurd (never_both Head (word w ∷ ts) p e)

parse-taken : (t : List ℕ) (p : Source) → parse t ≡ taken p → (length t ≤ most_bytes) × (program (tokens t) ≡ taken p)
unfolding parse
parse-taken t p =
    cond_both (ltb most_bytes (length t)) (refused Long []) (program (tokens t)) (λ x. x ≡ taken p → (length t ≤ most_bytes) × (program (tokens t) ≡ taken p))
    (λ b e. absurd (never_both Long [] p e))
    (λ b e. (ltb-false most_bytes (length t) b, e))

-- the laws

pub accepts_the_grammar : AcceptsTheGrammar
accepts_the_grammar t p =
    ((λ e. let r = parse-taken t p e in (r.0, spells_from_taken (tokens t) p r.1)), λ h. parse_short t h.0 ∙ taken_from_spells h.1)

pub print_reads_back : PrintReadsBack
print_reads_back p h =
    parse_short (print p) (print_is_short p h) ∙ ap program (tokens-print p h) ∙ taken_from_spells (spells_spelling p h)

pub print_reads_back_in_enough_places : PrintReadsBackInEnoughPlaces
print_reads_back_in_enough_places p places h l = reading_in_enough_places places (print p) l ∙ print_reads_back p h

ranged-commands : {ts : List Token} {q : Code} → Commands ts q → Ranged q
ranged-commands none = tt
ranged-commands (numeral_then d s c) = (s, ranged-commands c)
ranged-commands (name_then c) = ranged-commands c
ranged-commands (sequence_then b c) = (ranged-commands b, ranged-commands c)

pub spells_bounded : {ts : List Token} {p : Source} → Spells ts p → Bounded p
spells_bounded (program_of d v c s) = record { parameters = v; commands = s; numerals = ranged-commands c }

pub reading_is_bounded : ReadingIsBounded
reading_is_bounded t p e = spells_bounded ((accepts_the_grammar t p).0 e).1

pub one_reading : OneReading
one_reading ts p q x y = same_taken p q (sym (taken_from_spells x) ∙ taken_from_spells y)

pub prints_differ : PrintsDiffer
prints_differ p q h k e = same_taken p q (sym (print_reads_back p h) ∙ ap parse e ∙ print_reads_back q k)
