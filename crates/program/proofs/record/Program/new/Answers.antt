use Rattle.std.proofs.Common.{refl, ap}
use Rattle.syntax.specs.Code.{source}
use Rattle.program.proofs.Steps.{empty_table}
use Rattle.program.proofs.record.Program.new.Goals as goal

pub invariant_of-result : goal.invariant_of-result
invariant_of-result c = record { whole = (empty_table _ refl refl refl refl).1 }

pub returns : goal.returns
returns c = ap (source 0) (empty_table _ refl refl refl refl).0
