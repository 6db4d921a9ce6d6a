-- Division towards zero: of whole numbers, and of numbers.
use Rattle.std.proofs.Common.{◌≡◌, ℕ, zero, suc, ◌+◌, ◌-◌, ◌*◌, ◌/◌, ◌%◌, ◌<◌, ◌≤◌, true, eqb, ◌⊎◌, ℤ, pos, negsuc, ◌+ℤ◌, ◌*ℤ◌, neg_ℤ, nat_abs, Ok, Err, sym, refl, ap, ◌∙◌, inl, inr, ⊎_elim, mod-lt, mod-eq_of_lt, div-add-mod', div-le_self, arith, w32, SFits, to_z, of_z}
use lib.IntN.{neg_ℤ-+ℤ}
use lib.Signed.{mag, lt_z, quot_z, mag_rem}
use Rattle.std.specs.Int.{int_wrap}
use Rattle.std.proofs.lemmas.Int.{int_wrap_fits}
use Rattle.std.proofs.lemmas.Bool.{cases_eq, cond-true, cond-false, eq-eqb, ne_eqb, le-ltb}
use Rattle.codes.specs.declared.Fault.TheVariants.{ZeroDivisor}
use Rattle.arithmetic.specs.Numbers.{least, in_range}
use Rattle.arithmetic.specs.Operations.{quotient, remainder, divided}
use Rattle.arithmetic.specs.Laws.{DivisionsAreExact, LeastByMinusOne}
use Rattle.arithmetic.proofs.Ranges.{in_range_fits, fits_in_range}
use Rattle.arithmetic.proofs.Residues.{reduced-in_range}

-- ---- magnitudes

magnitude_positive : (b : ℤ) → (b ≡ pos 0 → ⊥) → 0 < nat_abs b
magnitude_positive (pos zero) n = absurd (n refl)
magnitude_positive (pos (suc b)) n = omega arith
magnitude_positive (negsuc b) n = omega arith

nat_abs_negated : (n : ℕ) → nat_abs (neg_ℤ (pos n)) ≡ n
nat_abs_negated zero = refl
nat_abs_negated (suc n) = refl

mag_negated : (n : ℕ) → mag (neg_ℤ (pos n)) ≡ n - 1
mag_negated zero = refl
mag_negated (suc n) = omega arith

-- ---- the whole-number quotient and the remainder make up the dividend

negated_times_pos : (q b : ℕ) → neg_ℤ (pos q) *ℤ pos b ≡ neg_ℤ (pos (q * b))
negated_times_pos zero b = let z : 0 * b ≡ 0 = omega arith in ap pos z ∙ sym (ap (λ (n : ℕ). neg_ℤ (pos n)) z)
negated_times_pos (suc q) b = refl

negated_times_negsuc : (q b : ℕ) → neg_ℤ (pos q) *ℤ negsuc b ≡ pos (q * suc b)
negated_times_negsuc zero b = let z : 0 * suc b ≡ 0 = omega arith in ap (λ (n : ℕ). neg_ℤ (pos n)) z ∙ sym (ap pos z)
negated_times_negsuc (suc q) b = refl

-- the sum of two numbers below zero
negated_sum : (m n k : ℕ) → m + n ≡ suc k → negsuc k ≡ neg_ℤ (pos m) +ℤ neg_ℤ (pos n)
negated_sum m n k e = sym (sym (neg_ℤ-+ℤ (pos m) (pos n)) ∙ ap (λ (x : ℕ). neg_ℤ (pos x)) e)

whole : (a b : ℤ) → a ≡ quot_z a b *ℤ b +ℤ remainder a b
whole (pos a) (pos b) = ap pos (sym (div-add-mod' a b))
whole (pos a) (negsuc b) = ap pos (sym (div-add-mod' a (suc b))) ∙ ap (λ (z : ℤ). z +ℤ pos (a % suc b)) (sym (negated_times_negsuc (a / suc b) b))
whole (negsuc a) (pos b) = negated_sum (suc a / b * b) (suc a % b) a (div-add-mod' (suc a) b) ∙ ap (λ (z : ℤ). z +ℤ neg_ℤ (pos (suc a % b))) (sym (negated_times_pos (suc a / b) b))
whole (negsuc a) (negsuc b) = negated_sum (suc a / suc b * suc b) (suc a % suc b) a (div-add-mod' (suc a) (suc b))

-- ---- the remainder

smaller : (a b : ℤ) → 0 < nat_abs b → nat_abs (remainder a b) < nat_abs b
smaller (pos a) b l = mod-lt a l
smaller (negsuc a) b l = omega (arith, nat_abs_negated (suc a % nat_abs b), mod-lt (suc a) l)

negated_sign : (r a : ℕ) → (neg_ℤ (pos r) ≡ pos 0) ⊎ (lt_z (neg_ℤ (pos r)) (pos 0) ≡ lt_z (negsuc a) (pos 0))
negated_sign zero a = inl refl
negated_sign (suc r) a = inr refl

sign : (a b : ℤ) → (remainder a b ≡ pos 0) ⊎ (lt_z (remainder a b) (pos 0) ≡ lt_z a (pos 0))
sign (pos a) b = inr (le-ltb (a % nat_abs b) 0 (omega arith) ∙ sym (le-ltb a 0 (omega arith)))
sign (negsuc a) b = negated_sign (suc a % nat_abs b) a

remainder_fits : (a b : ℤ) → SFits w32 a → SFits w32 (remainder a b)
remainder_fits a b f = record { sfits = omega (arith, f.sfits, mag_rem a b) }

-- ---- the quotient

-- half a number of 32 bits, or less
halved : (a b : ℕ) → a < 2147483648 → suc a / suc (suc b) < 2147483648
halved a b l = omega (arith, div-add-mod' (suc a) (suc (suc b)))

quotient-below_zero : (a b : ℕ) → a < 2147483648 → (a ≡ 2147483647 → b ≡ 0 → ⊥) → suc a / suc b < 2147483648
quotient-below_zero a zero l n =
    let d = div-add-mod' (suc a) 1 in
    ⊎_elim (λ e. absurd (n e refl)) (λ d. omega arith) (cases_eq a 2147483647)
quotient-below_zero a (suc b) l n = halved a b l

-- every whole-number quotient of numbers is a number but that of the least by −1
quotient_fits : (a b : ℤ) → SFits w32 a → (a ≡ least → b ≡ negsuc 0 → ⊥) → SFits w32 (quot_z a b)
quotient_fits (pos a) (pos b) f n = record { sfits = omega (arith, f.sfits, div-le_self a b) }
quotient_fits (pos a) (negsuc b) f n = record { sfits = omega (arith, f.sfits, div-le_self a (suc b), mag_negated (a / suc b)) }
quotient_fits (negsuc a) (pos b) f n = record { sfits = omega (arith, f.sfits, div-le_self (suc a) b, mag_negated (suc a / b)) }
quotient_fits (negsuc a) (negsuc b) f n = record { sfits = quotient-below_zero a b f.sfits (λ e d. n (ap negsuc e) (ap negsuc d)) }

pub quotient-in_range : (a b : ℤ) → in_range (quotient a b) ≡ true
quotient-in_range a b = reduced-in_range (quot_z a b)

pub remainder-in_range : (a b : ℤ) → in_range a ≡ true → in_range (remainder a b) ≡ true
remainder-in_range a b h = fits_in_range (remainder a b) (remainder_fits a b (in_range_fits a h))

pub divisions_are_exact_lem : DivisionsAreExact
divisions_are_exact_lem a b h k n = record {
  whole = whole a b;
  smaller = smaller a b (magnitude_positive b n);
  sign = sign a b;
  remains_within = remainder-in_range a b h;
  within = quotient-in_range a b;
  exact = λ not_least. int_wrap_fits w32 (quot_z a b) (quotient_fits a b (in_range_fits a h) not_least);
}

pub least_by_minus_one : LeastByMinusOne
unfolding int_wrap
least_by_minus_one = (refl, refl)

-- ---- what the code gives

pub divided_by_nonzero : (a b : ℤ) → (b ≡ pos 0 → ⊥) → divided a b ≡ Ok (quotient a b, remainder a b)
divided_by_nonzero a b n =
    let l = magnitude_positive b n in
    cond-false (eqb (nat_abs b) 0) (Err ZeroDivisor) (Ok (quotient a b, remainder a b)) (ne_eqb (nat_abs b) 0 (λ e. omega arith))

-- a whole number is reduced by reading its bits, where it is not too large
near : (z : ℤ) → nat_abs z < 4294967296 → int_wrap w32 z ≡ to_z w32 (of_z w32 z)
unfolding int_wrap
near (pos n) h = ap (to_z w32) (mod-eq_of_lt h)
near (negsuc n) h =
    let l : n < 4294967296 = omega arith in
    let m : n % 4294967296 ≡ n = mod-eq_of_lt l in
    ap (to_z w32) (omega arith)

quotient_no_larger : (a b : ℤ) → nat_abs (quot_z a b) ≤ nat_abs a
quotient_no_larger (pos a) (pos b) = div-le_self a b
quotient_no_larger (pos a) (negsuc b) = omega (arith, div-le_self a (suc b), nat_abs_negated (a / suc b))
quotient_no_larger (negsuc a) (pos b) = omega (arith, div-le_self (suc a) b, nat_abs_negated (suc a / b))
quotient_no_larger (negsuc a) (negsuc b) = div-le_self (suc a) (suc b)

nat_abs_mag : (z : ℤ) → nat_abs z ≤ suc (mag z)
nat_abs_mag (pos n) = omega arith
nat_abs_mag (negsuc n) = omega arith

-- the quotient of numbers is the whole-number quotient's bits, read with a sign
pub quotient_bits : (a b : ℤ) → SFits w32 a → quotient a b ≡ to_z w32 (of_z w32 (quot_z a b))
quotient_bits a b f = near (quot_z a b) (omega (arith, f.sfits, quotient_no_larger a b, nat_abs_mag a))
