-- From the digits of a word to the number that it writes, and what a word's command does to a draft.
use Rattle.std.proofs.Common.{◌≡◌, ℕ, ◌^◌, ◌<◌, ◌≤◌, min, true, false, List, length, get_or, drop, ℤ, pos, neg_ℤ, Some, None, Option, Ok, Err, Result, sym, ap, ◌∙◌, subst, ⊎_elim, arith}
use Rattle.std.specs.Option.{option_map, ok_or}
use Rattle.std.specs.Str.Parse.{digits_value}
use Rattle.std.proofs.lemmas.Bool.{cases_lt, both_ways}
use Rattle.codes.specs.declared.Refusal.{Refusal}
use Rattle.codes.specs.declared.Refusal.TheVariants.{Word}
use Rattle.arithmetic.specs.Numbers.{in_range}
use Rattle.syntax.specs.declared.Event.{Event}
use Rattle.syntax.specs.declared.Event.TheVariants.{Name as name_event}
use Rattle.syntax.specs.declared.Name.{Name}
use Rattle.syntax.specs.Events.{Draft, feed}
use Rattle.grammar.specs.Words.{Numeral, plain, Meaning, number, command, huge, strange, meaning}
use Rattle.grammar.specs.Reading.{fed, follow}
use Rattle.grammar.proofs.Words.{out_of_range_plain, out_of_range_minus, numeral-minus, name_means, means_strange}
use Rattle.lexer.specs.declared.words.NumeralError.{NumeralError}
use Rattle.lexer.specs.declared.words.NumeralError.TheVariants.{OutOfRange, NoNumeral}
use Rattle.lexer.specs.Wording.{Digits, Within, Reads, Names, told}

-- a number that is told of a value held at 2 ^ 32 is told of the value itself, with either sign
held : (signed : ℕ → ℤ) → ((k : ℕ) → 2 ^ 32 ≤ k → in_range (signed k) ≡ false) → (n v : ℕ) (r : Result ℤ NumeralError) → v ≡ min n (2 ^ 32) → Within (signed v) r → Within (signed n) r
held signed far n v r e h =
    ⊎_elim (λ (l : n < 2 ^ 32). subst (λ (k : ℕ). Within (signed k) r) (omega arith) h) (λ (l : 2 ^ 32 ≤ n). beyond r (far v (omega arith)) (far n l) h) (cases_lt n (2 ^ 32))
  where
    beyond : (r : Result ℤ NumeralError) → in_range (signed v) ≡ false → in_range (signed n) ≡ false → Within (signed v) r → Within (signed n) r
    beyond (Ok y) p q h = absurd (both_ways (in_range (signed v)) p h.1)
    beyond (Err OutOfRange) p q h = q
    beyond (Err NoNumeral) p q h = h

reads_within : (w : List ℕ) (z : ℤ) (r : Result ℤ NumeralError) → Numeral w z → Within z r → Reads w r
reads_within w z (Ok y) d h =
    (subst (Numeral w) (sym h.0) d, subst (λ x. in_range x ≡ true) (sym h.0) h.1)
reads_within w z (Err OutOfRange) d h = (z, d, h)
reads_within w z (Err NoNumeral) d h = absurd h

pub reads_plain : (w : List ℕ) (v : ℕ) (z : ℤ) (r : Result ℤ NumeralError) → Digits w (Some v) → z ≡ pos v → Within z r → Reads w r
reads_plain w v z r d e h =
    reads_within w (pos (digits_value 10 w)) r (plain d.0) (held (λ k. pos k) (λ k l. out_of_range_plain k (omega arith)) (digits_value 10 w) v r d.1 (subst (λ (x : ℤ). Within x r) e h))

pub reads_minus : (w : List ℕ) (v : ℕ) (z : ℤ) (r : Result ℤ NumeralError) → 0 < length w → get_or w 0 0 ≡ 45 → Digits (drop 1 w) (Some v) → z ≡ neg_ℤ (pos v) → Within z r → Reads w r
reads_minus w v z r l m d e h =
    reads_within w (neg_ℤ (pos (digits_value 10 (drop 1 w)))) r (numeral-minus w l m d.0)
    (held (λ k. neg_ℤ (pos k)) (λ k l. out_of_range_minus k (omega arith)) (digits_value 10 (drop 1 w)) v r d.1 (subst (λ (x : ℤ). Within x r) e h))

-- a word that is no numeral
pub told_name : (w : List ℕ) (n : Option Name) → ((z : ℤ) → Numeral w z → ⊥) → Names w n → ok_or (option_map name_event n) Word ≡ told (meaning w)
told_name w (Some o) h n = ap told (sym (ap meaning n ∙ name_means o))
told_name w None h n = ap told (sym (means_strange w h n))

-- what a word does to a draft, by the command that it is

same_event : (x y : Event) → ◌≡◌ {A = Result Event Refusal} (Ok x) (Ok y) → x ≡ y
same_event x y i = cc

pub follow_ok : (m : Meaning) (e : Event) (d : Draft) → Ok e ≡ told m → follow m d ≡ fed (feed e d)
follow_ok (number z) e d h = ap (λ x. fed (feed x d)) (sym (same_event e _ h))
follow_ok (command o) e d h = ap (λ x. fed (feed x d)) (sym (same_event e _ h))
follow_ok huge e d h = let z : ◌≡◌ {A = ℕ} 0 1 = cc in absurd (omega arith)
follow_ok strange e d h = let z : ◌≡◌ {A = ℕ} 0 1 = cc in absurd (omega arith)
