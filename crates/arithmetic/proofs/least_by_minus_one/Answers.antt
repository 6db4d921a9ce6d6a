-- By computation.
use Rattle.arithmetic.proofs.Divisions.{least_by_minus_one}
use Rattle.arithmetic.proofs.least_by_minus_one.Goals as goal

pub returns : goal.returns
returns c = least_by_minus_one
