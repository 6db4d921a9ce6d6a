-- The chain at a link is the one that its place opens.
use Rattle.std.proofs.Common.{Some, None, rules}
use Rattle.layout.specs.Tables.{at}
use Rattle.layout.proofs.Whole.{opens}
use Rattle.program.proofs.record.Program.place.Goals as goal

pub returns-then-link-eq0-clause-chain : goal.returns-then-link-eq0-clause-chain
returns-then-link-eq0-clause-chain c = opens c.args.self.now.table c.args.link None c.args.self.now.whole (search rules)

pub returns-clause-chain : goal.returns-clause-chain
returns-clause-chain c = opens c.args.self.now.table c.args.link (Some (at c.args.self.now.table.places c.args.link)) c.args.self.now.whole (search rules)
