use Rattle.std.proofs.Common.{◌≤◌, length, arith}
use Rattle.syntax.specs.Bounds.{most_bytes}
use Rattle.layout.proofs.Whole.{bounded}
use Rattle.layout.specs.Tables.{source_of}
use Rattle.grammar.specs.Printing.{print}
use Rattle.grammar.proofs.Printing.{print_is_short}
use Rattle.program.specs.Programs.{program_of}
use Rattle.guide.proofs.Fronts.{printed}
use Rattle.guide.proofs.report.standard_form.Goals as goal

-- every print is short enough
pub unwrap-len-requires : goal.unwrap-len-requires
unwrap-len-requires c =
    let t = c.args.program.now.table in
    let short : length (print (program_of c.args.program.now)) ≤ most_bytes = print_is_short (source_of t) (bounded t c.args.program.now.whole) in
    printed 264 4096 (print (program_of c.args.program.now)) c.print.result c.print.ensures.answer (omega arith) (omega arith)
