use Rattle.layout.proofs.Whole.{reached_once}
use Rattle.program.proofs.look.each_place_is_reached_once.Goals as goal

pub returns : goal.returns
returns c = λ p. reached_once p.table p.whole
