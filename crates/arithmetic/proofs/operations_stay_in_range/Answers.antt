-- What is reduced lies in range.
use Rattle.arithmetic.proofs.Residues.{operations_stay_in_range_lem}
use Rattle.arithmetic.proofs.operations_stay_in_range.Goals as goal

pub returns : goal.returns
returns c = operations_stay_in_range_lem
