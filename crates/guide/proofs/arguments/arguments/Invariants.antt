use Rattle.std.proofs.Common.{map, vec_items, string_bytes}
use Rattle.guide.proofs.Collecting.{Collected}
use Rattle.guide.proofs.arguments.arguments.Given as goal

abbrev pub invariant-loop-index : goal.invariant-loop-index
invariant-loop-index l = Collected (map string_bytes l.words) (vec_items l.numbers) l.index
