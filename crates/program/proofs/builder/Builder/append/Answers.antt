use Rattle.std.proofs.Common.{refl}
use Rattle.program.proofs.Steps.{both_in, plain_kept, plain-taken, plain-refused}
use Rattle.program.proofs.builder.Builder.append.Goals as goal

pub returns-then-at-ge-PLACES : goal.returns-then-at-ge-PLACES
returns-then-at-ge-PLACES c = plain-refused c.args.self.now c.args.command c.requires c.if-at-ge-PLACES.true

pub put-requires : goal.put-requires
put-requires c = both_in c.args.self.now c.if-at-ge-PLACES.false

pub invariant_of-self : goal.invariant_of-self
invariant_of-self c = record { sound = (plain_kept c.args.self.now c.args.command c.put.new.places c.requires c.put.ensures c.if-at-ge-PLACES.false).kept }

pub returns : goal.returns
returns c =
    plain-taken c.args.self.now _ c.args.command c.requires (record { rooms = refl; arities = refl; names = refl; memories = refl }) c.if-at-ge-PLACES.false
    (plain_kept c.args.self.now c.args.command c.put.new.places c.requires c.put.ensures c.if-at-ge-PLACES.false).told
