-- Each operation is reduced once, at the end.
use Rattle.arithmetic.proofs.Residues.{operations_are_residues_lem}
use Rattle.arithmetic.proofs.operations_are_residues.Goals as goal

pub returns : goal.returns
returns c = operations_are_residues_lem
