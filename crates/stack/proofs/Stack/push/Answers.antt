-- A pushed value is on top where there was room; else nothing changes.
use Rattle.std.proofs.Common.{set, sym, ap, arith}
use Rattle.stack.proofs.Laws.{items-push, length-held}
use Rattle.stack.proofs.Stack.push.Goals as goal

pub returns-then-self-clause-fits : goal.returns-then-self-clause-fits
returns-then-self-clause-fits g c = let l = length-held c.args.self.now in let t = c.if-self.true in grind arith

pub returns-then-self-clause-items : goal.returns-then-self-clause-items
returns-then-self-clause-items g c = items-push c.args.self.now.places.now c.args.self.now.len c.args.x c.if-self.true

pub returns-then-self-clause-over : goal.returns-then-self-clause-over
returns-then-self-clause-over g c = sym (ap (λ n. set c.args.self.now.places.now n c.args.x) (length-held c.args.self.now))

pub returns-else-self-clause-fits : goal.returns-else-self-clause-fits
returns-else-self-clause-fits g c = let l = length-held c.args.self.now in grind arith
