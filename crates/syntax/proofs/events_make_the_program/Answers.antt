use Rattle.syntax.proofs.Growing.{feeds-events}
use Rattle.syntax.proofs.events_make_the_program.Goals as goal

pub returns : goal.returns
returns c = feeds-events
