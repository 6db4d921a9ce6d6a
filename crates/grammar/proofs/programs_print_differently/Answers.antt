use Rattle.grammar.proofs.programs_print_differently.Goals as goal
use Rattle.grammar.proofs.Accepting.{prints_differ}

pub returns : goal.returns
returns c = prints_differ
