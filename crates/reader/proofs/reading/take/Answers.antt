use Rattle.std.proofs.Common.{refl, ap, ◌∙◌}
use Rattle.std.proofs.lemmas.Result.{err_from_is_err_and}
use Rattle.syntax.specs.declared.Event.TheVariants.{Open}
use Rattle.grammar.specs.Words.{meaning}
use Rattle.grammar.specs.Reading.{step}
use Rattle.lexer.specs.Lexing.{lexeme}
use Rattle.lexer.proofs.Valued.{follow_ok}
use Rattle.program.specs.Building.{working}
use Rattle.reader.proofs.Turns.{wrong_fed, crowds}
use Rattle.reader.proofs.reading.take.Goals as goal

pub returns-in_err-accept-in-Open-clause-turned : goal.returns-in_err-accept-in-Open-clause-turned
returns-in_err-accept-in-Open-clause-turned c =
    let p = err_from_is_err_and c.from_residual.result c.from_residual.ensures.1 in
    rw (p.1, p.2) (wrong_fed c.args.builder.now c.accept.new.self Open _ c.in_err-accept-in-Open.field-0.0 c.requires refl (ap (λ t. step (working c.args.builder.now) (lexeme t)) c.in-Open.is) c.in_err-accept-in-Open.ensures)

pub returns-in_err-accept-in-Word-clause-turned : goal.returns-in_err-accept-in-Word-clause-turned
returns-in_err-accept-in-Word-clause-turned c =
    let m = meaning c.in-Word.word.now in
    let e = c.in_ok-command-in-Word.field-0 in
    let p = err_from_is_err_and c.from_residual-in_err-accept-in-Word.result c.from_residual-in_err-accept-in-Word.ensures.1 in
    rw (p.1, p.2) (wrong_fed c.args.builder.now c.accept-in-Word.new.self e _ c.in_err-accept-in-Word.field-0.0 c.requires (crowds m e c.in_ok-command-in-Word.ensures)
    (ap (λ t. step (working c.args.builder.now) (lexeme t)) c.in-Word.is ∙ follow_ok m e (working c.args.builder.now) c.in_ok-command-in-Word.ensures) c.in_err-accept-in-Word.ensures)
