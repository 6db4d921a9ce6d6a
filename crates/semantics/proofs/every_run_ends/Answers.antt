use Rattle.semantics.proofs.Runs.{every_run_ends_lem}
use Rattle.semantics.proofs.every_run_ends.Goals as goal

pub returns : goal.returns
returns c = every_run_ends_lem
