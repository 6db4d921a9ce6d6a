use Rattle.std.proofs.Common.{◌<◌, ◌∷◌, length, ℤ, ap, ◌∙◌, arith, to_z-of_z, w32, SFits, rules}
use Rattle.std.specs.Slice.Iter.{iter_rest}
use Rattle.std.specs.Iterator.Adapters.{rev_source}
use Rattle.stack.specs.Held.{held, room}
use Rattle.semantics.specs.declared.Value.TheVariants.{Numeral}
use Rattle.interpreter.proofs.Answered.{one_more_pushed, room_for_one_more, all_pushed}
use Rattle.interpreter.proofs.Turns.{grown}
use Rattle.interpreter.proofs.turning.push_all.Goals as goal

pub loop-k-preserved : goal.loop-k-preserved
loop-k-preserved c =
    let p = c.push.ensures in
    let i = c.loop-k.invariant in
    let left = iter_rest (rev_source c.loop-k.k-iterator) in
    let front = iter_rest (rev_source c.next.new.self) in
    let fits : SFits w32 c.in-Some.k.now = search rules in
    let fresh : length (held c.loop-k.values) < room c.loop-k.values = room_for_one_more left front c.args.ks.now c.in-Some.k.now (held c.loop-k.values) (room c.loop-k.values) c.in-Some.ensures.steps i.all (let r = c.requires.room in let s = i.room in omega arith) in
    let more = grown c.push.result _ (held c.loop-k.values) (held c.push.new.self) _ _ p.fits p.items fresh ∙ ap (λ (z : ℤ). Numeral z ∷ held c.loop-k.values) (to_z-of_z fits) in
    record {
      all = one_more_pushed left front c.in-Some.k.now (held c.loop-k.values) (held c.push.new.self) _ c.in-Some.ensures.steps more i.all;
      room = p.size ∙ i.room;
      same = p.same ∙ i.same;
    }

pub returns : goal.returns
returns c = let i = c.loop-k.invariant in record { held = all_pushed (iter_rest (rev_source c.loop-k.k-iterator)) (held c.loop-k.values) _ c.in-None.ensures.steps.0 i.all; room = i.room; same = i.same }
