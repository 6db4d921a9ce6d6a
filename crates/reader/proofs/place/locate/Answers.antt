use Rattle.std.proofs.Common.{◌≡◌, ◌<◌, length, get_or, take, min, sym, ◌∙◌, arith}
use Rattle.std.proofs.lemmas.List.{get_or-take, length-take}
use Rattle.reader.proofs.Positions.{behind_line_feed, behind_other}
use Rattle.reader.proofs.place.locate.Goals as goal
use Rattle.reader.proofs.place.locate.Goals.{then-byte-eq10, else-byte-eq10}

pub loop-byte-preserved : goal.loop-byte-preserved
loop-byte-preserved c =
    let text = c.args.text.now in
    let i = c.loop-byte.byte-index in
    let cut : i < min c.min.result (length text) = omega (arith, c.loop-byte-test.true, length-take c.min.result text) in
    let same : get_or (take c.min.result text) i 0 ≡ get_or text i 0 = get_or-take c.min.result text i 0 (omega arith) in
    elim c.if-byte-eq10.branch [
      | then-byte-eq10 w ↦ behind_line_feed text i c.loop-byte.here c.if-byte-eq10.here (omega arith) c.loop-byte.invariant (sym same ∙ w.if-byte-eq10.true) w.here-is
      | else-byte-eq10 w ↦ behind_other text i c.loop-byte.here c.if-byte-eq10.here (omega arith) c.loop-byte.invariant (λ e. w.if-byte-eq10.false (same ∙ e)) w.here-is
    ]
