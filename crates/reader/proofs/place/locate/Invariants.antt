use Rattle.reader.proofs.Positions.{Reached}
use Rattle.reader.proofs.place.locate.Given as goal

abbrev pub invariant-loop-byte : goal.invariant-loop-byte
invariant-loop-byte l = Reached l.text l.byte-index l.here
