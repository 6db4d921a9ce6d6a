-- What is reduced differs by a multiple of 2 ^ 32 from what it was.
use Rattle.arithmetic.proofs.Residues.{reduction_is_residue_lem}
use Rattle.arithmetic.proofs.reduction_is_residue.Goals as goal

pub returns : goal.returns
returns c = reduction_is_residue_lem
