-- What each kind of turn did.
use Rattle.std.proofs.Common.{◌≡◌, ◌∷◌, ℤ, Ok, Err, sym, refl, ap, ◌∙◌, to_z-of_z, w32, SFits, rules}
use Rattle.stack.specs.Held.{held}
use Rattle.semantics.specs.declared.Value.TheVariants.{Numeral, Sequence}
use Rattle.layout.specs.declared.Command.{Command}
use Rattle.layout.specs.Tables.{command_then}
use Rattle.program.specs.Programs.{from}
use Rattle.interpreter.proofs.Turns.{went_by_numeral, went_by_sequence, went_by_name, went_inside, went_wrong, grown}
use Rattle.interpreter.proofs.turning.Execution.turn.Goals as goal

pub returns-in_err-apply-in-Name-clause-turned : goal.returns-in_err-apply-in-Name-clause-turned
returns-in_err-apply-in-Name-clause-turned c =
    let a = c.apply.ensures in
    let f = from c.args.self.now.program.now in
    let e = c.in-Some.ensures.chain ∙ ap (λ (d : Command). command_then f d (f c.in-Some.place.next)) c.in-Name.is in
    let wrong : c.from_residual.result ≡ Err c.in_err-apply-in-Name.field-0.0 = search rules in
    went_wrong f c.args.self.now.at (held c.args.self.now.values) (held c.args.self.now.chains) c.in-Name.name c.in-Some.place.next c.args.self.now.at c.in_err-apply-in-Name.field-0.0 (held c.apply.new.values) (held c.args.self.now.chains) c.from_residual.result e (sym c.in_err-apply-in-Name.was ∙ a.answer) wrong

pub returns-in-Numeral-clause-turned : goal.returns-in-Numeral-clause-turned
returns-in-Numeral-clause-turned c =
    let p = c.push.ensures in
    let f = from c.args.self.now.program.now in
    let s = held c.args.self.now.values in
    let k : SFits w32 c.in-Numeral.k = search rules in
    let e = c.in-Some.ensures.chain ∙ ap (λ (d : Command). command_then f d (f c.in-Some.place.next)) c.in-Numeral.is in
    let more = grown c.push.result _ s (held c.push.new.self) _ _ p.fits p.items c.requires.values ∙ ap (λ (z : ℤ). Numeral z ∷ s) (to_z-of_z k) in
    went_by_numeral f c.args.self.now.at s (held c.args.self.now.chains) c.in-Numeral.k c.in-Some.place.next (held c.push.new.self) (held c.args.self.now.chains) e more refl

pub returns-in-Sequence-clause-turned : goal.returns-in-Sequence-clause-turned
returns-in-Sequence-clause-turned c =
    let p = c.push-in-Sequence.ensures in
    let f = from c.args.self.now.program.now in
    let s = held c.args.self.now.values in
    let e = c.in-Some.ensures.chain ∙ ap (λ (d : Command). command_then f d (f c.in-Some.place.next)) c.in-Sequence.is in
    let more = grown c.push-in-Sequence.result (Sequence c.in-Sequence.first) s (held c.push-in-Sequence.new.self) _ _ p.fits p.items c.requires.values in
    went_by_sequence f c.args.self.now.at s (held c.args.self.now.chains) c.in-Sequence.first c.in-Some.place.next (held c.push-in-Sequence.new.self) (held c.args.self.now.chains) e more refl

pub returns-in-None-clause-turned : goal.returns-in-None-clause-turned
returns-in-None-clause-turned c =
    let a = c.apply.ensures in
    let f = from c.args.self.now.program.now in
    let e = c.in-Some.ensures.chain ∙ ap (λ (d : Command). command_then f d (f c.in-Some.place.next)) c.in-Name.is in
    went_by_name f c.args.self.now.at (held c.args.self.now.values) (held c.args.self.now.chains) c.in-Name.name c.in-Some.place.next (held c.apply.new.values) (held c.args.self.now.chains) e (ap Ok (sym c.in-None.is) ∙ sym c.in_ok-apply-in-Name.was ∙ a.answer) a.values refl

pub returns-in-Some-2-clause-turned : goal.returns-in-Some-2-clause-turned
returns-in-Some-2-clause-turned c =
    let a = c.apply.ensures in
    let p = c.push-in-Some-2.ensures in
    let f = from c.args.self.now.program.now in
    let e = c.in-Some.ensures.chain ∙ ap (λ (d : Command). command_then f d (f c.in-Some.place.next)) c.in-Name.is in
    let more = grown c.push-in-Some-2.result c.in-Some.place.next (held c.args.self.now.chains) (held c.push-in-Some-2.new.self) _ _ p.fits p.items c.requires.chains in
    went_inside f c.args.self.now.at (held c.args.self.now.values) (held c.args.self.now.chains) c.in-Name.name c.in-Some-2.first c.in-Some.place.next (held c.apply.new.values) (held c.push-in-Some-2.new.self) e (ap Ok (sym c.in-Some-2.is) ∙ sym c.in_ok-apply-in-Name.was ∙ a.answer) a.values more
