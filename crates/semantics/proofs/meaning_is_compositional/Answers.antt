use Rattle.semantics.proofs.Meanings.{compositional}
use Rattle.semantics.proofs.meaning_is_compositional.Goals as goal

pub returns : goal.returns
returns c = compositional
