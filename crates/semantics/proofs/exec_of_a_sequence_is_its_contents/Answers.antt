use Rattle.semantics.proofs.Meanings.{exec_runs_contents}
use Rattle.semantics.proofs.exec_of_a_sequence_is_its_contents.Goals as goal

pub returns : goal.returns
returns c = exec_runs_contents
