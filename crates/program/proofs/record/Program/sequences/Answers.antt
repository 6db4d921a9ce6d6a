use Rattle.layout.proofs.Whole.{parts_of}
use Rattle.program.proofs.record.Program.sequences.Goals as goal

pub returns : goal.returns
returns c = (parts_of c.args.self.now.table c.args.self.now.whole).sequences_so
