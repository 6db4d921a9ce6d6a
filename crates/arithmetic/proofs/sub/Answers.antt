-- The wrapping difference is the reduced one.
use Rattle.std.proofs.Common.{rules}
use Rattle.std.proofs.lemmas.Int.{wraps}
use Rattle.arithmetic.proofs.sub.Goals as goal

pub returns : goal.returns
returns c = search (rules, wraps)
