-- By the signs of the dividend and the divisor.
use Rattle.arithmetic.proofs.Divisions.{divisions_are_exact_lem}
use Rattle.arithmetic.proofs.divisions_are_exact.Goals as goal

pub returns : goal.returns
returns c = divisions_are_exact_lem
