use Rattle.grammar.proofs.what_is_printed_reads_back.Goals as goal
use Rattle.grammar.proofs.Accepting.{print_reads_back, print_reads_back_in_enough_places}

pub returns : goal.returns
returns c = record { parsed = print_reads_back; read = print_reads_back_in_enough_places }
