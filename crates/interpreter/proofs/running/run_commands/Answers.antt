use Rattle.std.proofs.Common.{length, Ok, Err, refl, ap, ◌∙◌, arith}
use Rattle.std.proofs.lemmas.List.{length-map}
use Rattle.stack.specs.Held.{held}
use Rattle.semantics.specs.declared.Value.TheVariants.{Numeral}
use Rattle.semantics.specs.Meaning.{Outcome, meaning, numbers}
use Rattle.semantics.proofs.Runs.{steps_of_chain, numbers_hold_none}
use Rattle.program.specs.Programs.{from, tree_of}
use Rattle.layout.proofs.Whole.{parts_of}
use Rattle.interpreter.specs.declared.turning.Turn.TheVariants.{Ended}
use Rattle.interpreter.proofs.Loops.{start, ended, stopped_at, said_of}
use Rattle.interpreter.proofs.running.run_commands.Goals as goal

pub loop-steps-init : goal.loop-steps-init
loop-steps-init c =
    let p = c.args.program.now in
    let ks = c.args.arguments.now in
    let x = c.new-execution.result in
    let e = c.new-execution.ensures in
    let many = ap length e.arguments ∙ length-map ks Numeral in
    let few = c.requires.few in
    let commands = (parts_of p.table p.whole).few in
    record {
      program = e.program;
      come = start (from p) (tree_of p) x.at ks (held x.chains) (held x.values) e.at e.none e.arguments (omega arith) (omega (arith, steps_of_chain (tree_of p) (numbers ks), numbers_hold_none ks));
      values = refl;
      chains = refl;
    }

pub returns-in-Ok-Ended : goal.returns-in-Ok-Ended
returns-in-Ok-Ended c =
    let p = c.args.program.now in
    let x = c.loop-steps.execution in
    let y = c.turn.new.self in
    let i = c.loop-steps.invariant in
    ap (λ (o : Outcome). record { outcome = o; spent = record { steps = c.loop-steps.steps } }) c.result.ensures
    ∙ ended (from p) (meaning (tree_of p) (numbers c.args.arguments.now)) x.at (held x.chains) (held x.values) c.loop-steps.steps i.come y.at (held y.chains) (held y.values)
    (said_of x.program.now p x.at (held x.values) (held x.chains) _ (Ok Ended) y.at (held y.values) (held y.chains) i.program (ap Ok c.in-Ok-Ended.field-0-is) c.in-Ok-Ended.ensures.turned)

pub returns-in-Err : goal.returns-in-Err
returns-in-Err c =
    let p = c.args.program.now in
    let x = c.loop-steps.execution in
    let y = c.turn.new.self in
    let i = c.loop-steps.invariant in
    stopped_at (from p) (meaning (tree_of p) (numbers c.args.arguments.now)) x.at (held x.chains) (held x.values) c.loop-steps.steps i.come c.in-Err.fault y.at (held y.chains) (held y.values)
    (said_of x.program.now p x.at (held x.values) (held x.chains) _ (Err c.in-Err.fault) y.at (held y.values) (held y.chains) i.program refl c.in-Err.ensures.turned)
