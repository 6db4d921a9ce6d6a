use Rattle.grammar.proofs.reading_refuses_at_the_first_wrong_token.Goals as goal
use Rattle.grammar.proofs.Refusing.{refuses_at_the_first_wrong_token}

pub returns : goal.returns
returns c = refuses_at_the_first_wrong_token
