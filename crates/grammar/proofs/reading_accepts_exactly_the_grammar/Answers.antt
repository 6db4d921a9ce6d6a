use Rattle.grammar.proofs.reading_accepts_exactly_the_grammar.Goals as goal
use Rattle.grammar.proofs.Accepting.{accepts_the_grammar}

pub returns : goal.returns
returns c = accepts_the_grammar
