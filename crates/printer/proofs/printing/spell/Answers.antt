use Rattle.std.proofs.Common.{◌≡◌, Ok, ap, rules, ◌∙◌, arith}
use Rattle.std.specs.List.{fold}
use Rattle.layout.specs.Tables.{source_of, tree}
use Rattle.layout.proofs.Whole.{bounded}
use Rattle.grammar.specs.Printing.{print}
use Rattle.grammar.proofs.Printing.{print_is_short}
use Rattle.printer.specs.Writing.{added, state}
use Rattle.printer.proofs.Writing.{length_added, text_added}
use Rattle.printer.proofs.printing.spell.Goals as goal

pub returns : goal.returns
returns c =
    let t = c.args.program.now.table in
    let short = print_is_short (source_of t) (bounded t c.args.program.now.whole) in
    let events = c.new-walker.ensures.all in
    let begun = c.new-text.ensures.none in
    let parameters = c.parameters.ensures in
    let head = c.put_heading.ensures.text in
    let rest = c.put_events.ensures.text.text in
    let whole = text_added t.parameters (tree t) (c.args.out.now, 0) in
    let all : state c.put_events.new.self ≡ fold added (c.args.out.now, 0) (print (source_of t)) = cc in
    let bytes = ap (λ s. s.0) all in
    let len = ap (λ s. s.1) all in
    record {
      answer = ap (λ m. Ok m) (c.len.ensures ∙ len ∙ (let n = length_added (print (source_of t)) (c.args.out.now, 0) (omega arith) in omega arith));
      bytes = search rules;
    }
