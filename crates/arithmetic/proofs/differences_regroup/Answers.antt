-- Whole-number differences regroup, and reduction on the way changes nothing.
use Rattle.arithmetic.proofs.Residues.{differences_regroup_lem}
use Rattle.arithmetic.proofs.differences_regroup.Goals as goal

pub returns : goal.returns
returns c = differences_regroup_lem
