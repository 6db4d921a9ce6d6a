use Rattle.program.proofs.Records.{one_record}
use Rattle.program.proofs.look.one_program_has_one_record.Goals as goal

pub returns : goal.returns
returns c = one_record
