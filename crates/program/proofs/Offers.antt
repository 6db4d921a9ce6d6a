-- What a caller of a builder learns of the draft, where lent memory suffices.
use Rattle.std.proofs.Common.{◌≡◌, ℕ, ◌+◌, ◌<◌, ◌≤◌, Bool, false, cond, ltb, ◌∷◌, Some, None, Ok, Err, Option, Result, sym, refl, ap, ◌∙◌, arith}
use Rattle.std.proofs.lemmas.Bool.{cond_both, ltb-true, lt-leb}
use Rattle.codes.specs.declared.Refusal.{Refusal}
use Rattle.codes.specs.declared.Refusal.TheVariants.{Space}
use Rattle.stack.specs.Held.{room}
use Rattle.syntax.specs.Bounds.{most_commands}
use Rattle.syntax.specs.declared.Event.{Event}
use Rattle.syntax.specs.declared.Event.TheVariants.{Numeral, Name, Open, Close}
use Rattle.syntax.specs.Code.{end, commands}
use Rattle.syntax.specs.Events.{Draft, draft, commands_around, depth, feed}
use Rattle.syntax.proofs.Growing.{depth_le}
use Rattle.program.specs.declared.builder.Builder.{Builder}
use Rattle.program.specs.Building.{working, refusal_of, lacks, within, answer, draft_after, Took}

-- where a place is lent for each command that there may be, memory never runs short
ample : (e : Event) (d f : Draft) (n : ℕ) → most_commands ≤ n → feed e d ≡ Some f → lacks e d n ≡ false
ample (Numeral k) d f n l h = refl
ample (Name o) d f n l h = refl
ample Close d f n l h = refl
ample Open (draft c cs) f n l h =
    let room : commands c + commands_around cs < most_commands =
    cond_both (ltb (commands c + commands_around cs) most_commands) (Some (draft end (c ∷ cs))) None (λ (o : Option Draft). o ≡ Some f → commands c + commands_around cs < most_commands)
    (λ t q. ltb-true _ _ t) (λ t q. let z : ◌≡◌ {A = ℕ} 0 1 = cc in absurd (omega arith)) h in
    lt-leb n (depth (draft c cs)) (omega (arith, depth_le (draft c cs)))

module _ (e : Event) (d w : Draft) (n : ℕ) where
  accepted : (o : Option Draft) → Ok tt ≡ answer (within e d n o) → w ≡ draft_after (within e d n o) d → o ≡ Some w
  accepted None a h = let z : ◌≡◌ {A = ℕ} 0 1 = cc in absurd (omega arith)
  accepted (Some f) a h =
      cond_both (lacks e d n) (Err Space) (Ok f) (λ (x : Result Draft Refusal). Ok tt ≡ answer x → w ≡ draft_after x d → Some f ≡ Some w)
      (λ t p q. let z : ◌≡◌ {A = ℕ} 0 1 = cc in absurd (omega arith)) (λ t p q. ap (λ (x : Draft). Some x) (sym q)) a h

  declined : (r : Refusal) (o : Option Draft) → feed e d ≡ o → most_commands ≤ n → Err r ≡ answer (within e d n o) → w ≡ draft_after (within e d n o) d → (o ≡ None) × (r ≡ refusal_of e) × (w ≡ d)
  declined r None g l a h = (refl, cc, h)
  declined r (Some f) g l a h =
      let enough : cond (lacks e d n) (Err Space) (Ok f) ≡ Ok f = ap (λ (b : Bool). cond b (Err Space) (Ok f)) (ample e d f n l g) in
      let x : Err r ≡ Ok tt = a ∙ ap answer enough in
      let z : ◌≡◌ {A = ℕ} 0 1 = cc in absurd (omega arith)

-- an event that was taken led on to the draft that the builder holds now
pub taken : (e : Event) (b d : Builder) → Took e b d (Ok tt) → feed e (working b) ≡ Some (working d)
taken e b d t = accepted e (working b) (working d) (room b.opens.now) (feed e (working b)) t.answers t.holds

-- an event that was not taken leads nowhere, and the builder holds what it held
pub not_taken : (e : Event) (b d : Builder) (r : Refusal) → most_commands ≤ room b.opens.now → Took e b d (Err r) → (feed e (working b) ≡ None) × (r ≡ refusal_of e) × (working d ≡ working b)
not_taken e b d r l t = declined e (working b) (working d) (room b.opens.now) r (feed e (working b)) refl l t.answers t.holds
