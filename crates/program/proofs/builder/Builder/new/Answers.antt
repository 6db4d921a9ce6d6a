-- A new builder holds an empty draft.
use Rattle.stack.specs.Held.{held}
use Rattle.program.proofs.Steps.{fresh_kept}
use Rattle.program.proofs.builder.Builder.new.Goals as goal

pub invariant_of-result : goal.invariant_of-result
invariant_of-result c = record { sound = (fresh_kept (held c.clear.new.self) c.clear.ensures.none).kept }

pub returns-clause-start : goal.returns-clause-start
returns-clause-start c = (fresh_kept (held c.clear.new.self) c.clear.ensures.none).told
