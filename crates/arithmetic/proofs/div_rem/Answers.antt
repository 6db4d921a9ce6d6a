-- A zero divisor is refused; else the wrapping quotient is the reduced one, and the remainder is exact.
use Rattle.std.proofs.Common.{◌≡◌, pos, Ok, sym, ◌∙◌, arith, w32, to_z, of_z}
use lib.Signed.{quot_z, rem_z}
use Rattle.std.proofs.lemmas.Int.{ints, to_z-of_z}
use Rattle.arithmetic.specs.Operations.{quotient, remainder}
use Rattle.arithmetic.proofs.Divisions.{divided_by_nonzero, quotient_bits}
use Rattle.arithmetic.proofs.div_rem.Goals as goal

pub returns : goal.returns
returns c =
    let n : c.args.b ≡ pos 0 → ⊥ = λ e. omega (arith, ints, c.if-b-eq0.false) in
    let ta = to_z-of_z w32 c.args.a c.ranges.a in
    let tb = to_z-of_z w32 c.args.b c.ranges.b in
    let q : to_z w32 (of_z w32 c.wrapping_div.result) ≡ quotient c.args.a c.args.b =
    to_z-of_z w32 c.wrapping_div.result (record { sfits = c.wrapping_div.type_inv }) ∙ c.wrapping_div.ensures
    ∙ (λ i. to_z w32 (of_z w32 (quot_z (ta i) (tb i)))) ∙ sym (quotient_bits c.args.a c.args.b c.ranges.a) in
    let r : to_z w32 (of_z w32 c.wrapping_rem.result) ≡ remainder c.args.a c.args.b =
    to_z-of_z w32 c.wrapping_rem.result (record { sfits = c.wrapping_rem.type_inv }) ∙ c.wrapping_rem.ensures ∙ (λ i. rem_z (ta i) (tb i)) in
    (λ i. Ok (q i, r i)) ∙ sym (divided_by_nonzero c.args.a c.args.b n)
