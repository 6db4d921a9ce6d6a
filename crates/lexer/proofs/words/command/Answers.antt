use Rattle.std.proofs.Common.{◌≡◌, Ok, sym, ap, ◌∙◌, w32, SFits, rules}
use Rattle.std.specs.Option.{option_map}
use Rattle.std.proofs.lemmas.Int.{to_z-of_z}
use Rattle.syntax.specs.declared.Event.TheVariants.{Numeral, Name}
use Rattle.grammar.proofs.Words.{numeral_means, numeral_huge}
use Rattle.lexer.specs.Wording.{told}
use Rattle.lexer.proofs.Valued.{told_name}
use Rattle.lexer.proofs.words.command.Goals as goal

pub returns-in-Ok : goal.returns-in-Ok
returns-in-Ok c =
    let h = c.in-Ok.ensures in
    let fits : SFits w32 c.in-Ok.number = search rules in
    ap (λ z. Ok (Numeral z)) (to_z-of_z w32 c.in-Ok.number fits) ∙ ap told (sym (numeral_means h.0 h.1))

pub returns-in-Err-OutOfRange : goal.returns-in-Err-OutOfRange
returns-in-Err-OutOfRange c =
    let h = rw c.in-Err-OutOfRange.field-0-is at c.in-Err-OutOfRange.ensures in
    ap told (sym (numeral_huge h.1 h.2))

pub returns-in-Err-NoNumeral : goal.returns-in-Err-NoNumeral
returns-in-Err-NoNumeral c =
    let h = rw c.in-Err-NoNumeral.field-0-is at c.in-Err-NoNumeral.ensures in
    let m : c.map.result ≡ option_map Name c.name.result = search rules in
    c.ok_or.ensures.value ∙ rw m (told_name c.args.word.now c.name.result h c.name.ensures)
