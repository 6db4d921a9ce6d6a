-- Digits byte by byte, the range, names, and with them what a word means.
use Rattle.std.proofs.Common.{◌≡◌, ℕ, zero, suc, ◌+◌, ◌-◌, ◌*◌, ◌^◌, ◌<◌, ◌≤◌, min, true, false, ◌&&◌, eqb, leb, List, [], ◌∷◌, length, get_or, take, drop, ℤ, pos, negsuc, neg_ℤ, sym, refl, ap, ◌∙◌, subst, arith}
use lib.Signed.{mag}
use Rattle.std.specs.Char.{is_ascii_digit, digit_value}
use Rattle.std.specs.Str.Parse.{digits_value}
use Rattle.std.specs.Str.{all_ascii_digits, bytes_eq}
use Rattle.std.proofs.lemmas.Int.Digits.{digits_value_more}
use Rattle.std.proofs.lemmas.Slice.Eq.{bytes_eq-Decides}
use Rattle.std.proofs.lemmas.List.{at_drop_more}
use Rattle.std.proofs.lemmas.Str.Parse.{IsNumeralModel, numerals_by_value, tells_all_ascii_digits}
use Rattle.std.proofs.lemmas.Bool.{cond-true, cond-false, cond_both, ne_eqb, eqb-true, lt-leb, leb-true, and_left, and_parts}
use Rattle.std.proofs.lemmas.Bool.Decides.{nat_tests}
use Rattle.arithmetic.specs.Numbers.{in_range}
use Rattle.syntax.specs.declared.Operator.TheVariants.{Add, Div, Eq, Gt, Lt, Mul, Rem, Sub}
use Rattle.syntax.specs.declared.Name.{Name}
use Rattle.syntax.specs.declared.Name.TheVariants.{Operator as operator, Exec, Nget, Pop, Sel, Swap}
use Rattle.grammar.specs.Words.{name_word, names, digital, Meaning, number, command, huge, strange, ranged, named, name_of, unsigned, minused, meaning, Numeral, plain, minus}

-- digits, one byte more

-- the shelf's laws of numerals, for `allDigits` and `value 10`
pub digits_are_numerals : IsNumeralModel (λ ds. all_ascii_digits ds ≡ true) (digits_value 10)
digits_are_numerals = numerals_by_value _ tells_all_ascii_digits

digit_by_value : (c : ℕ) → digit_value c < 10 → is_ascii_digit c ≡ true
digit_by_value c h = grind (arith, nat_tests)

pub digits_more : (xs : List ℕ) (i : ℕ) → i < length xs → digit_value (get_or xs i 0) < 10 → all_ascii_digits xs ≡ all_ascii_digits (drop i xs) → all_ascii_digits xs ≡ all_ascii_digits (drop (i + 1) xs)
digits_more xs i l d e =
    e ∙ at_drop_more all_ascii_digits xs i 0 l ∙ ap (λ b. b && all_ascii_digits (drop (i + 1) xs)) (digit_by_value (get_or xs i 0) d)

pub digital-from : (w : List ℕ) → 0 < length w → all_ascii_digits w ≡ true → digital w ≡ true
digital-from [] l h = absurd (omega arith)
digital-from (c ∷ w) l h = h

-- the value of a digit
pub digit_value_lem : (c : ℕ) → 48 ≤ c → c ≤ 57 → digit_value c ≡ c - 48
digit_value_lem c l h = grind (arith, nat_tests)

-- a value that is held at 2 ^ 32, one digit more
pub held_more : (xs : List ℕ) (i v : ℕ) → i < length xs → v ≡ min (digits_value 10 (take i xs)) (2 ^ 32) → min (2 ^ 32) (v * 10 + digit_value (get_or xs i 0)) ≡ min (digits_value 10 (take (i + 1) xs)) (2 ^ 32)
held_more xs i v l e = omega (arith, digits_value_more 10 xs i l)

-- the range

pub out_of_range_plain : (n : ℕ) → 2 ^ 31 ≤ n → in_range (pos n) ≡ false
out_of_range_plain n h = lt-leb n 2147483647 (omega arith)

pub out_of_range_minus : (n : ℕ) → 2 ^ 31 < n → in_range (neg_ℤ (pos n)) ≡ false
out_of_range_minus zero h = absurd (omega arith)
out_of_range_minus (suc n) h = and_left _ _ (lt-leb n 2147483647 (omega arith))

-- the range as a bound on the magnitude
pub in_range_mag : (z : ℤ) → in_range z ≡ true → mag z < 2 ^ 31
in_range_mag (pos n) h = omega (arith, leb-true n 2147483647 h)
in_range_mag (negsuc n) h = omega (arith, leb-true n 2147483647 (and_parts (leb n 2147483647) true h).0)

-- names

none_named : (w : List ℕ) (os : List Name) → ((o : Name) → w ≡ name_word o → ⊥) → named w os ≡ strange
none_named w [] h = refl
none_named w (o ∷ os) h =
    cond_both (bytes_eq w (name_word o)) (command o) (named w os) (λ m. m ≡ strange)
    (λ e. absurd (h o ((bytes_eq-Decides w (name_word o)).0 e)))
    (λ e. none_named w os h)

-- what a word means, by its form

digital-head : (c : ℕ) (cs : List ℕ) → digital (c ∷ cs) ≡ true → eqb c 45 ≡ false
digital-head c cs d =
    let h : is_ascii_digit c ≡ true = (and_parts (is_ascii_digit c) (all_ascii_digits cs) d).0 in grind (arith, nat_tests)

-- digits
pub meaning-digits : (w : List ℕ) → digital w ≡ true → meaning w ≡ ranged (pos (digits_value 10 w))
meaning-digits [] d = let z : ◌≡◌ {A = ℕ} 0 1 = cc in absurd (omega arith)
meaning-digits (c ∷ cs) d = rw (digital-head c cs d, d) refl

pub ranged-number : (z : ℤ) → in_range z ≡ true → ranged z ≡ number z
ranged-number z h = cond-true (in_range z) (number z) huge h

pub ranged_huge : (z : ℤ) → in_range z ≡ false → ranged z ≡ huge
ranged_huge z h = cond-false (in_range z) (number z) huge h

-- what a word means, by the grammar of numerals and names

pub numeral-ranged : {w : List ℕ} {z : ℤ} → Numeral w z → meaning w ≡ ranged z
numeral-ranged (plain {w} d) = meaning-digits w d
numeral-ranged (minus {w} d) = rw d refl

pub numeral_means : {w : List ℕ} {z : ℤ} → Numeral w z → in_range z ≡ true → meaning w ≡ number z
numeral_means {z} d s = numeral-ranged d ∙ ranged-number z s

pub numeral_huge : {w : List ℕ} {z : ℤ} → Numeral w z → in_range z ≡ false → meaning w ≡ huge
numeral_huge {z} d s = numeral-ranged d ∙ ranged_huge z s

pub name_means : (o : Name) → meaning (name_word o) ≡ command o
unfolding name_of
name_means (operator Add) = refl
name_means (operator Div) = refl
name_means (operator Eq) = refl
name_means (operator Gt) = refl
name_means (operator Lt) = refl
name_means (operator Mul) = refl
name_means (operator Rem) = refl
name_means (operator Sub) = refl
name_means Exec = refl
name_means Nget = refl
name_means Pop = refl
name_means Sel = refl
name_means Swap = refl

-- what the grammar says of a word with this meaning
abbrev pub Says : List ℕ → Meaning → Type 0
Says w (number z) = Numeral w z × (in_range z ≡ true)
Says w (command o) = w ≡ name_word o
Says w huge = (z : ℤ) × Numeral w z × (in_range z ≡ false)
Says w strange = Unit {0}

says-ranged : (w : List ℕ) (z : ℤ) → Numeral w z → Says w (ranged z)
says-ranged w z d = cond_both (in_range z) (number z) huge (Says w) (λ e. (d, e)) (λ e. (z, d, e))

says-named : (w : List ℕ) (os : List Name) → Says w (named w os)
says-named w [] = tt
says-named w (o ∷ os) =
    cond_both (bytes_eq w (name_word o)) (command o) (named w os) (Says w) (bytes_eq-Decides w (name_word o)).0 (λ e. says-named w os)

says-name : (w : List ℕ) → Says w (name_of w)
unfolding name_of
says-name w = says-named w names

says-unsigned : (w : List ℕ) → Says w (unsigned w)
says-unsigned w =
    cond_both (digital w) (ranged (pos (digits_value 10 w))) (name_of w) (Says w)
    (λ e. says-ranged w (pos (digits_value 10 w)) (plain e))
    (λ e. says-name w)

says-minused : (w : List ℕ) → Says (45 ∷ w) (minused w)
says-minused w =
    cond_both (digital w) (ranged (neg_ℤ (pos (digits_value 10 w)))) strange (Says (45 ∷ w))
    (λ e. says-ranged (45 ∷ w) (neg_ℤ (pos (digits_value 10 w))) (minus e))
    (λ e. tt)

pub says : (w : List ℕ) → Says w (meaning w)
says [] = tt
says (c ∷ cs) =
    cond_both (eqb c 45) (minused cs) (unsigned (c ∷ cs)) (Says (c ∷ cs))
    (λ e. subst (λ b. Says (b ∷ cs) (minused cs)) (sym (eqb-true c 45 e)) (says-minused cs))
    (λ e. says-unsigned (c ∷ cs))

-- which words are numerals, by their first byte

pub numeral-minus : (w : List ℕ) → 0 < length w → get_or w 0 0 ≡ 45 → digital (drop 1 w) ≡ true → Numeral w (neg_ℤ (pos (digits_value 10 (drop 1 w))))
numeral-minus [] l h d = absurd (omega arith)
numeral-minus (c ∷ cs) l h d = subst (λ k. Numeral (k ∷ cs) (neg_ℤ (pos (digits_value 10 cs)))) (sym h) (minus d)

-- a word with no other meaning is no numeral and no name

no_number : (z : ℤ) → ranged z ≡ strange → ⊥
no_number z =
    cond_both (in_range z) (number z) huge (λ m. m ≡ strange → ⊥)
    (λ t h. let y : ◌≡◌ {A = ℕ} 0 1 = cc in omega arith)
    (λ t h. let y : ◌≡◌ {A = ℕ} 0 1 = cc in omega arith)

pub strange_no_numeral : (w : List ℕ) → meaning w ≡ strange → (z : ℤ) → Numeral w z → ⊥
strange_no_numeral w s z d = no_number z (sym (numeral-ranged d) ∙ s)

pub strange_no_name : (w : List ℕ) → meaning w ≡ strange → (o : Name) → w ≡ name_word o → ⊥
strange_no_name w s o h =
    let c : command o ≡ strange = sym (name_means o) ∙ ap meaning (sym h) ∙ s in
    let y : ◌≡◌ {A = ℕ} 0 1 = cc in
    omega arith

pub means_strange : (w : List ℕ) → ((z : ℤ) → Numeral w z → ⊥) → ((o : Name) → w ≡ name_word o → ⊥) → meaning w ≡ strange
means_strange w p q = by (meaning w) (says w)
  where
    by : (m : Meaning) → Says w m → m ≡ strange
    by (number z) s = absurd (p z s.0)
    by (command o) s = absurd (q o s)
    by huge s = absurd (p s.0 s.1)
    by strange s = refl
