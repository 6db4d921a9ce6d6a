use Rattle.syntax.proofs.Growing.{one_text}
use Rattle.syntax.proofs.events_tell_programs_apart.Goals as goal

pub returns : goal.returns
returns c = one_text
