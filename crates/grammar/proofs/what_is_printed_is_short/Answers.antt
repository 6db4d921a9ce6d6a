use Rattle.grammar.proofs.what_is_printed_is_short.Goals as goal
use Rattle.grammar.proofs.Printing.{print_is_short}

pub returns : goal.returns
returns c = print_is_short
