-- Whole-number sums regroup, and reduction on the way changes nothing.
use Rattle.arithmetic.proofs.Residues.{sums_regroup_lem}
use Rattle.arithmetic.proofs.sums_regroup.Goals as goal

pub returns : goal.returns
returns c = sums_regroup_lem
