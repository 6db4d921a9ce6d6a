-- Two numerals went, and what the operator gives stands in their place.
use Rattle.std.proofs.Common.{◌∷◌, length, sym, ap, ◌∙◌, arith, w32, SFits, rules}
use Rattle.std.proofs.lemmas.Int.{to_z-of_z}
use Rattle.stack.specs.Held.{held}
use Rattle.stack.specs.Items.{tail_of}
use Rattle.semantics.specs.declared.Value.TheVariants.{Numeral}
use Rattle.semantics.specs.Commands.{compute, next}
use Rattle.syntax.specs.declared.Name.TheVariants.{Operator as operator}
use Rattle.operations.proofs.Names.{puts, operated}
use Rattle.operations.proofs.Stacks.{two_of}
use Rattle.operations.proofs.commands.operate.Goals as goal

pub returns : goal.returns
returns c =
    let first = sym c.get.ensures ∙ c.in_ok-first.ensures.ok_part in
    let second = sym c.get-2.ensures ∙ c.in_ok-second.ensures.ok_part in
    let a : SFits w32 c.in_ok-left.left = search rules in
    let b : SFits w32 c.in_ok-right.right = search rules in
    let k : SFits w32 c.in_ok-result.result = search rules in
    let gives = c.in_ok-result.ensures ∙ (λ i. compute c.args.operator (to_z-of_z w32 c.in_ok-left.left a i) (to_z-of_z w32 c.in_ok-right.right b i)) in
    let e = operated c.args.operator (held c.args.values.now) _ _ _ _ _ first second (sym c.in_ok-right.ensures) (sym c.in_ok-left.ensures) (sym gives) in
    let bits = ap (λ z. next (Numeral z ∷ tail_of (tail_of (held c.args.values.now)))) (to_z-of_z w32 c.in_ok-result.result k) in
    let p = c.pop.ensures in
    let q = c.pop-2.ensures in
    let r = c.push.ensures in
    puts (operator c.args.operator) c.args.values.now c.pop-2.new.self c.push.new.self _ _ c.push.result
    (e ∙ sym bits) (q.rest ∙ ap tail_of p.rest)
    (omega (arith, ap length (two_of (held c.args.values.now) _ _ first second)))
    (q.size ∙ p.size) (q.same ∙ p.same)
    (record { size = r.size; same = r.same; fits = r.fits; items = r.items })
