use Rattle.semantics.proofs.Meanings.{one_valuation}
use Rattle.semantics.proofs.meaning_is_the_one_valuation.Goals as goal

pub returns : goal.returns
returns c = one_valuation
