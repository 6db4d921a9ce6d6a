use Rattle.std.proofs.Common.{map, string_bytes}
use Rattle.program.specs.Programs.{program_of}
use Rattle.guide.proofs.Tellings.{tells_ran, tells_refused_first}
use Rattle.guide.proofs.outcome.run_report.Goals as goal

pub returns-in-Ok : goal.returns-in-Ok
returns-in-Ok c = tells_ran c.args.text.now (map string_bytes c.args.words.now) (program_of c.read.new.into) c.program_report.result c.in-Ok.ensures.reads c.program_report.ensures

pub returns-in_ok-refusal-in-Err : goal.returns-in_ok-refusal-in-Err
returns-in_ok-refusal-in-Err c =
    tells_refused_first c.args.text.now (map string_bytes c.args.words.now) c.in-Err.error c.in_ok-refusal-in-Err.field-0 c.in-Err.ensures.reads.1 c.in_ok-refusal-in-Err.ensures
