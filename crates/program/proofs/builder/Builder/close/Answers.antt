use Rattle.std.proofs.Common.{◌≡◌, ◌∷◌, sym, refl, ◌∙◌, arith}
use Rattle.stack.specs.Held.{held}
use Rattle.stack.specs.Items.{tail_of}
use Rattle.program.proofs.Steps.{sequences_in, cons_of, close_in, close_kept, close_taken}
use Rattle.program.proofs.builder.Builder.close.Goals as goal
use Rattle.program.proofs.builder.Builder.close.Goals.{then-self-at, else-self-at}

top : (c : goal.In-Some) → held c.args.self.now.opens.now ≡ c.in-Some.at ∷ tail_of (held c.args.self.now.opens.now)
top c = cons_of (held c.args.self.now.opens.now) c.in-Some.at (sym c.in-Some.is ∙ c.pop.ensures.top)

pub overflow_add-at : goal.overflow_add-at
overflow_add-at c =
    let l = close_in c.args.self.now c.in-Some.at (tail_of (held c.args.self.now.opens.now)) (top c) in
    let s = sequences_in c.args.self.now in
    record { fits = omega arith }

pub overflow_add-first : goal.overflow_add-first
overflow_add-first c =
    let e = cons_of (held c.args.self.now.opens.now) c.in-Some.at (sym c.in-Some.is ∙ c.pop.ensures.top) in
    let l = close_in c.args.self.now c.in-Some.at (tail_of (held c.args.self.now.opens.now)) e in
    let s = sequences_in c.args.self.now in
    record { fits = omega arith }

pub bounds-self-at : goal.bounds-self-at
bounds-self-at c =
    let e = cons_of (held c.args.self.now.opens.now) c.in-Some.at (sym c.in-Some.is ∙ c.pop.ensures.top) in
    let l = close_in c.args.self.now c.in-Some.at (tail_of (held c.args.self.now.opens.now)) e in
    let s = sequences_in c.args.self.now in
    omega arith

pub invariant_of-self-2 : goal.invariant_of-self-2
invariant_of-self-2 c =
    let e = cons_of (held c.args.self.now.opens.now) c.in-Some.at (sym c.in-Some.is ∙ c.pop.ensures.top) in record {
      sound = (close_kept c.args.self.now c.in-Some.at (tail_of (held c.args.self.now.opens.now)) e c.if-self-at.first (held c.pop.new.self) c.pop.ensures.rest
          (λ h. elim c.if-self-at.branch [ then-self-at w ↦ w.first-is | else-self-at w ↦ absurd (w.if-self-at.false h) ])
          (λ h. elim c.if-self-at.branch [ then-self-at w ↦ absurd (h w.if-self-at.true) | else-self-at w ↦ w.first-is ])).kept;
    }

pub returns : goal.returns
returns c =
    let p = c.pop.ensures in
    let e = cons_of (held c.args.self.now.opens.now) c.in-Some.at (sym c.in-Some.is ∙ c.pop.ensures.top) in
    close_taken c.args.self.now c.in-Some.at (tail_of (held c.args.self.now.opens.now)) e _ (record { rooms = p.size; arities = refl; names = refl; memories = p.same })
    (close_kept c.args.self.now c.in-Some.at (tail_of (held c.args.self.now.opens.now)) e c.if-self-at.first (held c.pop.new.self) p.rest
    (λ h. elim c.if-self-at.branch [ then-self-at w ↦ w.first-is | else-self-at w ↦ absurd (w.if-self-at.false h) ])
    (λ h. elim c.if-self-at.branch [ then-self-at w ↦ absurd (h w.if-self-at.true) | else-self-at w ↦ w.first-is ])).told
