use Rattle.std.proofs.Common.{◌≤◌, length, refl, arith}
use Rattle.stack.specs.Held.{held}
use Rattle.program.proofs.Steps.{used_pos, finishes}
use Rattle.program.proofs.builder.Builder.finish.Goals as goal
use Rattle.program.proofs.builder.Builder.finish.Goals.{then-self-eq1, else-self-eq1}

pub overflow_sub-table : goal.overflow_sub-table
overflow_sub-table c = used_pos c.args.self.now

pub invariant_of-result : goal.invariant_of-result
invariant_of-result c =
    let l : length (held c.args.self.now.opens.now) ≤ 0 = let e = c.len.ensures in let h = c.if-len-gt0.false in omega arith in record {
      whole = (finishes c.args.self.now c.if-self-eq1.first _ l
          (λ h. elim c.if-self-eq1.branch [ then-self-eq1 w ↦ w.first-is | else-self-eq1 w ↦ absurd (w.if-self-eq1.false h) ])
          (λ h. elim c.if-self-eq1.branch [ then-self-eq1 w ↦ absurd (h w.if-self-eq1.true) | else-self-eq1 w ↦ w.first-is ])
          refl refl refl c.count.ensures).kept;
    }

pub returns : goal.returns
returns c =
    let l : length (held c.args.self.now.opens.now) ≤ 0 = let e = c.len.ensures in let h = c.if-len-gt0.false in omega arith in
    (finishes c.args.self.now c.if-self-eq1.first _ l
    (λ h. elim c.if-self-eq1.branch [ then-self-eq1 w ↦ w.first-is | else-self-eq1 w ↦ absurd (w.if-self-eq1.false h) ])
    (λ h. elim c.if-self-eq1.branch [ then-self-eq1 w ↦ absurd (h w.if-self-eq1.true) | else-self-eq1 w ↦ w.first-is ])
    refl refl refl c.count.ensures).built
