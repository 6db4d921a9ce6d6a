-- A new walk has all of the program's events before it.
use Rattle.std.proofs.Common.{[], length, ap, arith}
use Rattle.syntax.specs.Events.{openings}
use Rattle.syntax.proofs.Growing.{openings-onto, sequences_le}
use Rattle.layout.specs.Tables.{at, tree}
use Rattle.layout.specs.Walking.{left_of}
use Rattle.layout.proofs.Whole.{parts_of}
use Rattle.program.proofs.walker.Walker.new.Goals as goal

pub returns-clause-all : goal.returns-clause-all
unfolding tree
returns-clause-all c = ap (left_of c.args.program.now.table.places (at c.args.program.now.table.places 0).next) c.clear.ensures.none

pub returns-clause-ample : goal.returns-clause-ample
unfolding tree
returns-clause-ample c = λ l.
    let all = ap openings (ap (left_of c.args.program.now.table.places (at c.args.program.now.table.places 0).next) c.clear.ensures.none) in
    let few = (parts_of c.args.program.now.table c.args.program.now.whole).few in
    omega (arith, openings-onto (tree c.args.program.now.table) [], sequences_le (tree c.args.program.now.table), ap (λ xs. length xs) c.clear.ensures.none)
