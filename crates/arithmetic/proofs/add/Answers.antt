-- The wrapping sum is the reduced one.
use Rattle.std.proofs.Common.{rules}
use Rattle.std.proofs.lemmas.Int.{wraps}
use Rattle.arithmetic.proofs.add.Goals as goal

pub returns : goal.returns
returns c = search (rules, wraps)
