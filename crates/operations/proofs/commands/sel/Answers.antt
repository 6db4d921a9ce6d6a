-- Three values went, and the one that the third chooses stands in their place.
use Rattle.std.proofs.Common.{◌≡◌, ℕ, ◌∷◌, length, sym, ap, ◌∙◌, arith, w32, SFits, rules}
use Rattle.std.proofs.lemmas.Int.{ints}
use Rattle.stack.specs.Held.{held}
use Rattle.stack.specs.Items.{tail_of}
use Rattle.semantics.specs.declared.Value.{Value}
use Rattle.syntax.specs.declared.Name.TheVariants.{Sel}
use Rattle.semantics.specs.Commands.{chosen, next}
use Rattle.operations.proofs.Names.{puts, chosen_first, chosen_second, selected}
use Rattle.operations.proofs.Stacks.{three_of}
use Rattle.operations.proofs.commands.sel.Goals as goal
use Rattle.operations.proofs.commands.sel.Goals.{then-condition-eq0, else-condition-eq0}

pub returns : goal.returns
returns c =
    let first = sym c.get.ensures ∙ c.in_ok-first.ensures.ok_part in
    let second = sym c.get-2.ensures ∙ c.in_ok-second.ensures.ok_part in
    let third = sym c.get-3.ensures ∙ c.in_ok-third.ensures.ok_part in
    let k : SFits w32 c.in_ok-condition.condition = search rules in
    let choice : c.if-condition-eq0.chosen ≡ chosen c.in_ok-condition.condition c.in_ok-first.first c.in_ok-second.second =
    elim c.if-condition-eq0.branch [
      | then-condition-eq0 w ↦ w.chosen-is ∙ sym (chosen_first c.in_ok-condition.condition _ _ (omega (arith, ints, w.if-condition-eq0.true)))
      | else-condition-eq0 w ↦ w.chosen-is ∙ sym (chosen_second c.in_ok-condition.condition _ _ (λ e. omega (arith, ints, w.if-condition-eq0.false)))
    ] in
    let p = c.pop.ensures in
    let q = c.pop-2.ensures in
    let r = c.pop-3.ensures in
    let t = c.push.ensures in
    puts Sel c.args.values.now c.pop-3.new.self c.push.new.self c.if-condition-eq0.chosen _ c.push.result
    (selected (held c.args.values.now) _ _ _ _ first second third (sym c.in_ok-condition.ensures) ∙ ap (λ (v : Value ℕ). next (v ∷ tail_of (tail_of (tail_of (held c.args.values.now))))) (sym choice)) (r.rest ∙ ap tail_of (q.rest ∙ ap tail_of p.rest))
    (omega (arith, ap length (three_of (held c.args.values.now) _ _ _ first second third)))
    (r.size ∙ q.size ∙ p.size) (r.same ∙ q.same ∙ p.same)
    (record { size = t.size; same = t.same; fits = t.fits; items = t.items })
