-- What is read stands that far below the top.
use Rattle.std.proofs.Common.{Some, sym, ap, ◌∙◌, arith}
use Rattle.std.proofs.lemmas.Option.{slice_get_past}
use Rattle.stack.proofs.Laws.{length-held, slice_get-items}
use Rattle.stack.proofs.Stack.get.Goals as goal

pub returns-then-depth-self : goal.returns-then-depth-self
returns-then-depth-self g c =
    ap (λ v. Some v) c.index-places-at.is
    ∙ sym (slice_get-items c.args.self.now.places.now c.args.self.now.len c.args.depth c.index-places-at.result c.args.self.now.fits c.if-depth-self.true)

pub returns-else-depth-self : goal.returns-else-depth-self
returns-else-depth-self g c = sym (slice_get_past _ c.args.depth (omega (arith, length-held c.args.self.now)))
