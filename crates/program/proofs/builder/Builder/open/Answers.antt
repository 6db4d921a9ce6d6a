use Rattle.std.proofs.Common.{◌≡◌, ◌∷◌, refl, ap, ◌∙◌, arith}
use Rattle.std.proofs.lemmas.Bool.{cond-true, cond-false}
use Rattle.stack.specs.Held.{held}
use Rattle.layout.specs.Drafts.{drafted}
use Rattle.program.proofs.Steps.{both_in, sequences_in, open_kept, open_taken, open_short, open_refused}
use Rattle.program.proofs.builder.Builder.open.Goals as goal

pub returns-then-at-ge-PLACES : goal.returns-then-at-ge-PLACES
returns-then-at-ge-PLACES c = open_refused c.args.self.now c.if-at-ge-PLACES.true

pub returns-then-not-push : goal.returns-then-not-push
returns-then-not-push c =
    let p = c.push.ensures in
    open_short c.args.self.now _ c.push.result (record { rooms = p.size; arities = refl; names = refl; memories = p.same }) c.if-at-ge-PLACES.false p.fits c.if-not-push.true
    (ap (drafted c.args.self.now.places c.args.self.now.used) (p.items ∙ cond-false c.push.result _ _ c.if-not-push.true))

pub put-requires : goal.put-requires
put-requires c = both_in c.args.self.now c.if-at-ge-PLACES.false

pub overflow_add-self-2 : goal.overflow_add-self-2
overflow_add-self-2 c = let s = sequences_in c.args.self.now in record { fits = omega arith }

over : (c : goal.After-put) → held c.push.new.self ≡ c.args.self.now.used ∷ held c.args.self.now.opens.now
over c = c.push.ensures.items ∙ cond-true c.push.result _ _ c.if-not-push.false

pub invariant_of-self-2 : goal.invariant_of-self-2
invariant_of-self-2 c = record { sound = (open_kept c.args.self.now c.put.new.places (held c.push.new.self) c.put.ensures (over c) c.if-at-ge-PLACES.false).kept }

pub returns : goal.returns
returns c =
    let p = c.push.ensures in
    open_taken c.args.self.now _ c.push.result (record { rooms = p.size; arities = refl; names = refl; memories = p.same }) c.if-at-ge-PLACES.false p.fits c.if-not-push.false
    (open_kept c.args.self.now c.put.new.places (held c.push.new.self) c.put.ensures
    (p.items ∙ cond-true c.push.result _ _ c.if-not-push.false) c.if-at-ge-PLACES.false).told
