use Rattle.grammar.proofs.tokens_are_the_longest_runs.Goals as goal
use Rattle.grammar.proofs.Tokenizing.{tokens_are_longest_runs}

pub returns : goal.returns
returns c = tokens_are_longest_runs
