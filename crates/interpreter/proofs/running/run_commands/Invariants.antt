use Rattle.std.proofs.Common.{◌≡◌, ◌+◌, ◌*◌, length}
use Rattle.stack.specs.Held.{held, room}
use Rattle.program.specs.Programs.{from, tree_of}
use Rattle.semantics.specs.Meaning.{meaning, numbers}
use Rattle.interpreter.proofs.Loops.{Come, left}
use Rattle.interpreter.proofs.running.run_commands.Given as goal

-- the run from its start has come here
abbrev pub invariant-loop-steps : goal.invariant-loop-steps
invariant-loop-steps l = record {
  program : l.execution.program.now ≡ l.program;
  come : Come (from l.program) (meaning (tree_of l.program) (numbers l.arguments)) l.execution.at (held l.execution.chains) (held l.execution.values) l.steps;
  values : room l.execution.values ≡ room l.initial.execution.values;
  chains : room l.execution.chains ≡ room l.initial.execution.chains;
}

-- each command has one step less before it, and a chain that ends is one less
abbrev pub decreases-loop-steps : goal.decreases-loop-steps
decreases-loop-steps l = 2 * left (from l.program) l.execution.at (held l.execution.chains) (held l.execution.values) + length (held l.execution.chains)
