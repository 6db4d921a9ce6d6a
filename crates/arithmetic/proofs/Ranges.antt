-- The range of numbers is what 32 bits with a sign hold.
use Rattle.std.proofs.Common.{◌≡◌, ◌<◌, ◌≤◌, true, leb, ℤ, pos, negsuc, refl, arith, w32, SFits}
use Rattle.std.proofs.lemmas.Bool.{and_parts, and_from, leb-true, le-leb}
use Rattle.arithmetic.specs.Numbers.{in_range}

pub in_range_fits : (z : ℤ) → in_range z ≡ true → SFits w32 z
in_range_fits (pos n) h =
    let l : n ≤ 2147483647 = leb-true n 2147483647 h in
    record { sfits = omega arith }
in_range_fits (negsuc n) h =
    let l : n ≤ 2147483647 = leb-true n 2147483647 (and_parts (leb n 2147483647) true h).0 in
    record { sfits = omega arith }

pub fits_in_range : (z : ℤ) → SFits w32 z → in_range z ≡ true
fits_in_range (pos n) f =
    let l : n < 2147483648 = f.sfits in
    le-leb n 2147483647 (omega arith)
fits_in_range (negsuc n) f =
    let l : n < 2147483648 = f.sfits in
    and_from (leb n 2147483647) true (le-leb n 2147483647 (omega arith)) refl
