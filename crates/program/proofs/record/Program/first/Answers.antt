use Rattle.std.proofs.Common.{refl}
use Rattle.layout.specs.Tables.{tree}
use Rattle.program.proofs.record.Program.first.Goals as goal

pub returns : goal.returns
unfolding tree
returns c = refl
