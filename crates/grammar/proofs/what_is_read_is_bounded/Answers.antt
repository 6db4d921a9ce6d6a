use Rattle.grammar.proofs.what_is_read_is_bounded.Goals as goal
use Rattle.grammar.proofs.Accepting.{reading_is_bounded}

pub returns : goal.returns
returns c = reading_is_bounded
