use Rattle.std.proofs.Common.{length, sym, ◌∙◌, arith}
use Rattle.program.specs.Programs.{tree_of}
use Rattle.layout.proofs.Whole.{parts_of}
use Rattle.interpreter.proofs.Answered.{answers-wrong_count, answers_course}
use Rattle.interpreter.proofs.running.run.Goals as goal

pub returns-then-arguments-parameters : goal.returns-then-arguments-parameters
returns-then-arguments-parameters c =
    let v = c.if-values-lt-WORKING_PLACES.false in
    let w = c.if-chains-lt-WORKING_PLACES.false in
    answers-wrong_count (length c.args.values.now) (length c.args.chains.now) c.args.program.now.table.parameters (tree_of c.args.program.now) c.args.arguments.now (omega arith) (omega arith)
    (λ e. c.if-arguments-parameters.true (e ∙ sym c.parameters.ensures))

pub run_commands-requires-clause-few : goal.run_commands-requires-clause-few
run_commands-requires-clause-few c =
    let n = c.if-arguments-parameters.false in
    let m = c.parameters.ensures in
    let few = (parts_of c.args.program.now.table c.args.program.now.whole).parameters in
    omega arith

pub returns : goal.returns
returns c =
    let v = c.if-values-lt-WORKING_PLACES.false in
    let w = c.if-chains-lt-WORKING_PLACES.false in
    answers_course (length c.args.values.now) (length c.args.chains.now) c.args.program.now.table.parameters (tree_of c.args.program.now) c.args.arguments.now c.run_commands.result (omega arith) (omega arith)
    (c.if-arguments-parameters.false ∙ c.parameters.ensures) c.run_commands.ensures
