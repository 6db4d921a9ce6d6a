-- Reduction gives residues; sums, differences and products may be regrouped under it.
use Rattle.std.proofs.Common.{◌≡◌, ℕ, suc, ◌+◌, ◌-◌, ◌*◌, ◌/◌, ◌%◌, ◌^◌, ◌<◌, Bool, true, false, ltb, ◌⊎◌, ℤ, pos, negsuc, ◌+ℤ◌, ◌-ℤ◌, ◌*ℤ◌, neg_ℤ, sym, refl, ap, ◌∙◌, inl, inr, ⊎_elim, mod-lt, div-add-mod', arith, w32, to_z}
use borrow.Author.Differences.{up, down, same_in, product_is}
use lib.IntN.{+ℤ_comm, +ℤ_idr, *ℤ_comm, *ℤ-zero}
use mir.Val.{sel}
use Rattle.std.specs.Int.{int_wrap}
use Rattle.std.proofs.lemmas.Int.{ints, int_wrap_fits, SFits-int_wrap, int_wrap-add_left, int_wrap-add_right, int_wrap-sub_right, int_wrap-mul_left, int_wrap-mul_right}
use Rattle.std.proofs.lemmas.Bool.{ltb-false}
use Rattle.arithmetic.specs.Numbers.{in_range}
use Rattle.arithmetic.specs.Operations.{reduced}
use Rattle.arithmetic.specs.Laws.{ReductionIsResidue, ReductionKeepsNumbers, OperationsAreResidues, OperationsStayInRange, SumsRegroup, DifferencesRegroup, ProductsRegroup, SumsCommute, ProductsCommute}
use Rattle.arithmetic.proofs.Ranges.{in_range_fits, fits_in_range}

-- 32 bits read with a sign are the number that they are without, or 2 ^ 32 less
read_signed : (n : ℕ) → n < 4294967296 → (to_z w32 n ≡ pos n) ⊎ (to_z w32 n +ℤ pos 4294967296 ≡ pos n)
read_signed n l = by (ltb n 2147483648) refl
  where
    by : (t : Bool) → ltb n 2147483648 ≡ t → (sel t (pos n) (negsuc (4294967296 - suc n)) ≡ pos n) ⊎ (sel t (pos n) (negsuc (4294967296 - suc n)) +ℤ pos 4294967296 ≡ pos n)
    by true e = inl refl
    by false e = let m = ltb-false n 2147483648 e in inr (omega (arith, ints))

-- a whole number is its reduction and a multiple of 2 ^ 32
multiple : (z : ℤ) → (k : ℤ) × (z ≡ reduced z +ℤ k *ℤ pos (2 ^ 32))
unfolding int_wrap
multiple (pos a) =
    let d = div-add-mod' a 4294967296 in
    let l : a % 4294967296 < 4294967296 = mod-lt a (omega arith) in
    ⊎_elim (λ e. (pos (a / 4294967296), omega (arith, ints, e))) (λ e. (pos (a / 4294967296 + 1), omega (arith, ints, e))) (read_signed (a % 4294967296) l)
multiple (negsuc a) =
    let d = div-add-mod' a 4294967296 in
    let l : a % 4294967296 < 4294967296 = mod-lt a (omega arith) in
    ⊎_elim (λ e. (negsuc (a / 4294967296), omega (arith, ints, e))) (λ e. (pos 0 -ℤ pos (a / 4294967296), omega (arith, ints, e))) (read_signed (4294967295 - a % 4294967296) (omega arith))

-- 2 ^ 32 itself is reduced to nothing
power_vanishes : int_wrap w32 (pos 4294967296) ≡ pos 0
unfolding int_wrap
power_vanishes = refl

zero_stays : int_wrap w32 (pos 0) ≡ pos 0
unfolding int_wrap
zero_stays = refl

-- so does each multiple of it
multiples_vanish : (k : ℤ) → int_wrap w32 (k *ℤ pos 4294967296) ≡ pos 0
multiples_vanish k =
    sym (int_wrap-mul_right w32 k (pos 4294967296)) ∙ ap (λ (y : ℤ). int_wrap w32 (k *ℤ y)) power_vanishes ∙ ap (int_wrap w32) (*ℤ-zero k) ∙ zero_stays

-- a number from which a whole number differs by a multiple of 2 ^ 32 is its reduction
only : (z s k : ℤ) → in_range s ≡ true → z ≡ s +ℤ k *ℤ pos (2 ^ 32) → s ≡ reduced z
only z s k h e =
    sym (ap (int_wrap w32) e ∙ sym (int_wrap-add_right w32 s (k *ℤ pos 4294967296)) ∙ ap (λ (y : ℤ). int_wrap w32 (s +ℤ y)) (multiples_vanish k)
    ∙ ap (int_wrap w32) (+ℤ_idr s) ∙ int_wrap_fits w32 s (in_range_fits s h))

pub reduced-in_range : (z : ℤ) → in_range (reduced z) ≡ true
reduced-in_range z = fits_in_range (reduced z) (SFits-int_wrap w32 z)

pub reduction_is_residue_lem : ReductionIsResidue
reduction_is_residue_lem z = record { within = reduced-in_range z; multiple = multiple z; only = only z }

pub operations_are_residues_lem : OperationsAreResidues
operations_are_residues_lem a b = (reduction_is_residue_lem (a +ℤ b), reduction_is_residue_lem (a -ℤ b), reduction_is_residue_lem (a *ℤ b))

pub operations_stay_in_range_lem : OperationsStayInRange
operations_stay_in_range_lem a b = (reduced-in_range (a +ℤ b), reduced-in_range (a -ℤ b), reduced-in_range (a *ℤ b))

pub sums_regroup_lem : SumsRegroup
sums_regroup_lem x a b =
    let e : x +ℤ a +ℤ b ≡ x +ℤ (a +ℤ b) = omega (arith, ints) in
    int_wrap-add_left w32 (x +ℤ a) b ∙ ap (int_wrap w32) e ∙ sym (int_wrap-add_right w32 x (a +ℤ b))

pub differences_regroup_lem : DifferencesRegroup
differences_regroup_lem x a b =
    let e : x -ℤ a -ℤ b ≡ x -ℤ (a +ℤ b) = omega (arith, ints) in
    int_wrap-add_left w32 (x -ℤ a) (neg_ℤ b) ∙ ap (int_wrap w32) e ∙ sym (int_wrap-sub_right w32 x (a +ℤ b))

-- whole-number products may be regrouped
*ℤ_assoc : (x a b : ℤ) → x *ℤ a *ℤ b ≡ x *ℤ (a *ℤ b)
*ℤ_assoc x a b =
    let p = product_is x a in
    let q = product_is a b in
    let p1 = ap (λ (n : ℕ). n * up b) p.0 in
    let p2 = ap (λ (n : ℕ). n * down b) p.0 in
    let p3 = ap (λ (n : ℕ). n * up b) p.1 in
    let p4 = ap (λ (n : ℕ). n * down b) p.1 in
    let q1 = ap (λ (n : ℕ). up x * n) q.0 in
    let q2 = ap (λ (n : ℕ). down x * n) q.0 in
    let q3 = ap (λ (n : ℕ). up x * n) q.1 in
    let q4 = ap (λ (n : ℕ). down x * n) q.1 in
    omega (arith, same_in, product_is)

pub products_regroup_lem : ProductsRegroup
products_regroup_lem x a b = int_wrap-mul_left w32 (x *ℤ a) b ∙ ap (int_wrap w32) (*ℤ_assoc x a b) ∙ sym (int_wrap-mul_right w32 x (a *ℤ b))
