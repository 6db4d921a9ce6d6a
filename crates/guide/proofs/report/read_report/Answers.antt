use Rattle.program.specs.Programs.{program_of}
use Rattle.guide.proofs.Tellings.{tells_taken, tells_refused}
use Rattle.guide.proofs.report.read_report.Goals as goal

pub returns-in-Ok : goal.returns-in-Ok
returns-in-Ok c = tells_taken c.args.text.now (program_of c.read.new.into) c.standard_form.result c.in-Ok.ensures.reads c.standard_form.ensures

pub returns-in_ok-refusal-in-Err : goal.returns-in_ok-refusal-in-Err
returns-in_ok-refusal-in-Err c = tells_refused c.args.text.now c.in-Err.error c.in_ok-refusal-in-Err.field-0 c.in-Err.ensures.reads.1 c.in_ok-refusal-in-Err.ensures
