-- The index went, and a copy of the numeral that it counts to stands in its place.
use Rattle.std.proofs.Common.{◌∷◌, length, sym, ap, ◌∙◌, arith, w32, SFits, rules}
use Rattle.std.proofs.lemmas.Int.{to_z-of_z}
use Rattle.stack.specs.Held.{held}
use Rattle.stack.specs.Items.{tail_of}
use Rattle.semantics.specs.declared.Value.TheVariants.{Numeral}
use Rattle.syntax.specs.declared.Name.TheVariants.{Nget}
use Rattle.semantics.specs.Commands.{counted, next}
use Rattle.operations.proofs.Names.{puts, copied}
use Rattle.operations.proofs.Stacks.{one_of}
use Rattle.operations.proofs.commands.nget.Goals as goal

pub returns : goal.returns
returns c =
    let first = sym c.get.ensures ∙ c.in_ok-first.ensures.ok_part in
    let i : SFits w32 c.in_ok-index.index = search rules in
    let k : SFits w32 c.in_ok-copy.copy = search rules in
    let found = sym (c.indexed.ensures ∙ ap (counted (tail_of (held c.args.values.now))) (to_z-of_z w32 c.in_ok-index.index i)) ∙ c.in_ok-found.ensures.ok_part in
    let e = copied (held c.args.values.now) _ _ _ _ first (sym c.in_ok-index.ensures) found (sym c.in_ok-copy.ensures) in
    let bits = ap (λ z. next (Numeral z ∷ tail_of (held c.args.values.now))) (to_z-of_z w32 c.in_ok-copy.copy k) in
    let p = c.pop.ensures in
    let t = c.push.ensures in
    puts Nget c.args.values.now c.pop.new.self c.push.new.self _ _ c.push.result
    (e ∙ sym bits) p.rest
    (omega (arith, ap length (one_of (held c.args.values.now) _ first)))
    p.size p.same
    (record { size = t.size; same = t.same; fits = t.fits; items = t.items })
