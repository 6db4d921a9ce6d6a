use Rattle.std.proofs.Common.{ap, ◌∙◌, Ok}
use Rattle.program.specs.Walking.{left}
use Rattle.printer.specs.Writing.{state}
use Rattle.printer.proofs.Writing.{added_next, left_before}
use Rattle.printer.proofs.text.Text.put_events.Goals as goal

pub loop-event-preserved : goal.loop-event-preserved
loop-event-preserved c =
    let i = c.loop-event.invariant in
    let n = c.next.ensures in
    let w = n.ample i.ample in
    let is = left_before (left c.loop-event.walker) (left c.next.new.self) c.in-Some.event c.next.result (c.in_ok-event.was ∙ ap (λ o. Ok o) c.in-Some.is) w.1 n.rest in
    record {
      ample = w.0;
      text = added_next (state c.loop-event.self) (state c.put_event.new.self) c.loop-event.tight c.is_opening-tight.result c.in-Some.event (left c.loop-event.walker) (left c.next.new.self) is c.is_opening-tight.ensures c.put_event.ensures.text ∙ i.text;
      same = c.put_event.ensures.same ∙ i.same;
    }
