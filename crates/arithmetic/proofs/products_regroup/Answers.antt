-- Whole-number products regroup, and reduction on the way changes nothing.
use Rattle.arithmetic.proofs.Residues.{products_regroup_lem}
use Rattle.arithmetic.proofs.products_regroup.Goals as goal

pub returns : goal.returns
returns c = products_regroup_lem
