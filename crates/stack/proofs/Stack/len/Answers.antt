-- The length counts what is held.
use Rattle.std.proofs.Common.{sym}
use Rattle.stack.proofs.Laws.{length-held}
use Rattle.stack.proofs.Stack.len.Goals as goal

pub returns : goal.returns
returns g c = sym (length-held c.args.self.now)
