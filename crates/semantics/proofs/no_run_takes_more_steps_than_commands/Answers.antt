use Rattle.semantics.proofs.Runs.{steps_within_commands}
use Rattle.semantics.proofs.no_run_takes_more_steps_than_commands.Goals as goal

pub returns : goal.returns
returns c = steps_within_commands
