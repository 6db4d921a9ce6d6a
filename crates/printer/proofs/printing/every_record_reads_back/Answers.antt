use Rattle.layout.specs.Tables.{source_of}
use Rattle.layout.proofs.Whole.{bounded}
use Rattle.grammar.proofs.Printing.{print_is_short}
use Rattle.grammar.proofs.Accepting.{print_reads_back}
use Rattle.printer.proofs.printing.every_record_reads_back.Goals as goal

pub returns : goal.returns
returns c = λ p. let b = bounded p.table p.whole in (print_is_short (source_of p.table) b, print_reads_back (source_of p.table) b)
