use Rattle.std.proofs.Common.{◌≡◌, length, take, drop, rules, refl, ap, ◌∙◌, arith}
use Rattle.std.proofs.lemmas.List.{take_at}
use Rattle.layout.specs.Tables.{source_of}
use Rattle.layout.proofs.Whole.{bounded}
use Rattle.grammar.specs.Printing.{print}
use Rattle.grammar.specs.Reading.{parse}
use Rattle.grammar.proofs.Accepting.{print_reads_back}
use Rattle.printer.proofs.Writing.{print_written}
use Rattle.printer.proofs.printing.print.Goals as goal

pub returns : goal.returns
returns c =
    let p = source_of c.args.program.now.table in
    let b = bounded c.args.program.now.table c.args.program.now.whole in
    let once = c.spell.ensures.answer in
    let was = c.in_ok-len.was in
    let measured : c.in_ok-len.len ≡ length (print p) = cc in
    let whole = c.spell-2.ensures.bytes ∙ print_written p c.args.out.now b (omega arith) in
    record {
      answer = search rules;
      bytes = rw c.spell-2.ensures.answer whole;
      reads_back = rw c.spell-2.ensures.answer (ap (λ x. parse (take (length (print p)) x)) whole ∙ ap parse (take_at (print p) (drop (length (print p)) c.args.out.now) _ refl) ∙ print_reads_back p b);
    }
