use Rattle.std.proofs.Common.{ℕ, List, Some, ◌≡◌, ◌≤◌, ◌^◌, subst, arith, to_z, of_z, w64, pos, negsuc, neg_ℤ, ◌*ℤ◌}
use Rattle.std.proofs.lemmas.Int.{ints}
use Rattle.std.proofs.lemmas.List.{take_rest}
use Rattle.lexer.specs.Wording.{Digits}
use Rattle.lexer.proofs.Valued.{reads_plain, reads_minus}
use Rattle.lexer.proofs.words.numeral.Goals as goal
use Rattle.lexer.proofs.words.numeral.Goals.{in-45, in_default}

same : (v : ℕ) → v ≤ 2 ^ 32 → to_z w64 (of_z w64 (pos 1 *ℤ to_z w64 v)) ≡ pos v
same v h = omega (arith, ints)

negated : (v : ℕ) → v ≤ 2 ^ 32 → to_z w64 (of_z w64 (negsuc 0 *ℤ to_z w64 v)) ≡ neg_ℤ (pos v)
negated v h = omega (arith, ints)

pub returns : goal.returns
returns c =
    let v = c.in_ok-size.field-0 in
    let size : Digits c.if-word-lt1.sign.1.now (Some v) = rw c.in_ok-size.ensures.ok_part at c.digits.ensures in
    elim c.if-word-lt1.branch [
      | in-45 w ↦
          let d = subst (λ (xs : List ℕ). Digits xs (Some v)) (take_rest c.args.word.now 1) (rw w.sign-is at size) in
          reads_minus c.args.word.now v _ c.number.result (omega arith) (omega arith) d (negated v (omega (arith, d.1))) (rw w.sign-is at c.number.ensures)
      | in_default w ↦
          let d = rw w.sign-is at size in
          reads_plain c.args.word.now v _ c.number.result d (same v (omega (arith, d.1))) (rw w.sign-is at c.number.ensures)
    ]
