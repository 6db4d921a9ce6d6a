-- The value on top is the first of what was held, and the others are the rest.
use Rattle.std.proofs.Common.{sym, ap, ◌∙◌}
use Rattle.stack.specs.Items.{head_of, tail_of}
use Rattle.stack.proofs.Laws.{nothing_held, top_held}
use Rattle.stack.proofs.Stack.pop.Goals as goal

pub returns-then-self-eq0-clause-top : goal.returns-then-self-eq0-clause-top
returns-then-self-eq0-clause-top g c = sym (ap head_of (nothing_held c.args.self.now c.if-self-eq0.true))

pub returns-then-self-eq0-clause-rest : goal.returns-then-self-eq0-clause-rest
returns-then-self-eq0-clause-rest g c = let e = nothing_held c.args.self.now c.if-self-eq0.true in e ∙ sym (ap tail_of e)

pub returns-clause-top : goal.returns-clause-top
returns-clause-top g c = sym (ap head_of (top_held c.args.self.now c.index-self-self.result c.if-self-eq0.false))

pub returns-clause-rest : goal.returns-clause-rest
returns-clause-rest g c = sym (ap tail_of (top_held c.args.self.now c.index-self-self.result c.if-self-eq0.false))
