use Rattle.semantics.proofs.Staying.{stays_in_range}
use Rattle.semantics.proofs.numbers_stay_in_range.Goals as goal

pub returns : goal.returns
returns c = stays_in_range
