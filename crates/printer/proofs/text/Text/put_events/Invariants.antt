use Rattle.std.proofs.Common.{◌≡◌, false, length}
use Rattle.std.specs.List.{fold}
use Rattle.program.specs.Walking.{left, Ample}
use Rattle.printer.specs.Writing.{added, ending, state}
use Rattle.printer.proofs.text.Text.put_events.Given as goal

-- what is left to be added makes the whole
abbrev pub invariant-loop-event : goal.invariant-loop-event
invariant-loop-event l =
    record {
      ample : Ample l.walker;
      text : fold added (state l.self) (ending l.tight (left l.walker)) ≡ fold added (state l.fn.self) (ending false (left l.fn.walker));
      same : l.self.out.ghost_name ≡ l.fn.self.out.ghost_name;
    }

abbrev pub decreases-loop-event : goal.decreases-loop-event
decreases-loop-event l = length (left l.walker)
