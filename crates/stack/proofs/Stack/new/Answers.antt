-- A new stack holds nothing.
use Rattle.stack.proofs.Laws.{items-none}
use Rattle.stack.proofs.Stack.new.Goals as goal

pub returns-clause-none : goal.returns-clause-none
returns-clause-none g c = items-none c.args.places.now
