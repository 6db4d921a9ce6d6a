use Rattle.std.proofs.Common.{ℕ, List, refl, subst}
use Rattle.printer.specs.Writing.{Adds}
use Rattle.printer.proofs.Digits.{digits-none, digits-place, digits_more, digits-all}
use Rattle.printer.proofs.text.Text.put_decimal.Goals as goal

pub loop-front-init : goal.loop-front-init
loop-front-init c = digits-none c.args.n _ refl

pub overflow_sub-first-in-loop-front : goal.overflow_sub-first-in-loop-front
overflow_sub-first-in-loop-front c = digits-place _ _ _ _ c.ranges.n.fits c.loop-front-test.true c.loop-front.invariant

pub loop-front-preserved : goal.loop-front-preserved
loop-front-preserved c = digits_more _ _ _ _ c.ranges.n.fits c.loop-front-test.true c.loop-front.invariant

pub returns : goal.returns
returns c =
    subst (λ (digits : List ℕ). Adds c.args.self.now digits c.put_all.new.self) (digits-all _ _ _ _ c.loop-front-test.false c.loop-front.invariant) c.put_all.ensures
