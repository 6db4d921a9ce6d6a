-- Two records of one program.
use Rattle.std.proofs.Common.{◌≡◌, sym, ap, ◌∙◌, arith}
use Rattle.syntax.specs.Code.{Code, commands, sequences, parameters_of, code_of}
use Rattle.layout.specs.Tables.{link}
use Rattle.layout.proofs.Whole.{parts_of, same_places}
use Rattle.program.specs.Programs.{tree_of, OneProgramOneRecord}

pub one_record : OneProgramOneRecord
one_record p q e =
    let t : tree_of p ≡ tree_of q = ap code_of e in
    let a = parts_of p.table p.whole in
    let b = parts_of q.table q.whole in
    let n = a.commands_so in
    record {
      parameters = ap parameters_of e;
      commands = a.commands_so ∙ ap commands t ∙ sym b.commands_so;
      sequences = a.sequences_so ∙ ap sequences t ∙ sym b.sequences_so;
      head = a.head ∙ ap (λ (c : Code). link 1 c 0) t ∙ sym b.head;
      places = λ i l m. same_places p.table q.table p.whole q.whole t i l (omega arith);
    }
