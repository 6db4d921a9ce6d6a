-- Two values went, and came back in the other order.
use Rattle.std.proofs.Common.{◌∷◌, length, sym, ap, ◌∙◌, arith}
use Rattle.stack.specs.Held.{held}
use Rattle.stack.specs.Items.{tail_of}
use Rattle.syntax.specs.declared.Name.TheVariants.{Swap}
use Rattle.operations.proofs.Names.{puts, swapped}
use Rattle.operations.proofs.Stacks.{two_of, pushes}
use Rattle.operations.proofs.commands.swap.Goals as goal

pub returns : goal.returns
returns c =
    let first = sym c.get.ensures ∙ c.in_ok-first.ensures.ok_part in
    let second = sym c.get-2.ensures ∙ c.in_ok-second.ensures.ok_part in
    let both = ap length (two_of (held c.args.values.now) _ _ first second) in
    let p = c.pop.ensures in
    let q = c.pop-2.ensures in
    let r = c.push.ensures in
    let t = c.push-2.ensures in
    let rest = q.rest ∙ ap tail_of p.rest in
    let one = pushes c.args.values.now c.pop-2.new.self c.push.new.self c.in_ok-first.first c.push.result (omega (arith, ap length rest, both)) (q.size ∙ p.size)
    (record { size = r.size; same = r.same; fits = r.fits; items = r.items }) in
    puts Swap c.args.values.now c.push.new.self c.push-2.new.self c.in_ok-second.second _ c.push-2.result
    (swapped (held c.args.values.now) _ _ first second) (one ∙ ap (λ l. c.in_ok-first.first ∷ l) rest)
    (omega (arith, both))
    (r.size ∙ q.size ∙ p.size) (r.same ∙ q.same ∙ p.same)
    (record { size = t.size; same = t.same; fits = t.fits; items = t.items })
