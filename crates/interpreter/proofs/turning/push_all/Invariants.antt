use Rattle.std.proofs.Common.{◌≡◌}
use Rattle.std.specs.Slice.Iter.{iter_rest}
use Rattle.std.specs.Iterator.Adapters.{rev_source}
use Rattle.stack.specs.Held.{held, room}
use Rattle.semantics.specs.Meaning.{numbers}
use Rattle.interpreter.proofs.Answered.{pushed_after}
use Rattle.interpreter.proofs.turning.push_all.Given as goal

-- what is left, and behind it what was pushed, is all
abbrev pub invariant-loop-k : goal.invariant-loop-k
invariant-loop-k l = record {
  all : pushed_after (iter_rest (rev_source l.k-iterator)) (held l.values) ≡ numbers l.ks;
  room : room l.values ≡ room l.initial.values;
  same : l.values.places.ghost_name ≡ l.initial.values.places.ghost_name;
}
