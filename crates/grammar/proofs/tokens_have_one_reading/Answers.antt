use Rattle.grammar.proofs.tokens_have_one_reading.Goals as goal
use Rattle.grammar.proofs.Accepting.{one_reading}

pub returns : goal.returns
returns c = one_reading
