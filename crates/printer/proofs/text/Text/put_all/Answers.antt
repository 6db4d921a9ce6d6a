use Rattle.std.proofs.Common.{ℕ, refl, sym, ap, ◌∙◌, arith}
use Rattle.printer.proofs.Writing.{only_counted}
use Rattle.printer.proofs.text.Text.put_all.Goals as goal

pub returns-then-self : goal.returns-then-self
returns-then-self c = record { text = ap (λ (n : ℕ). (c.args.self.now.out.now, n)) c.saturating_add-self.ensures ∙ sym (only_counted c.args.bytes.now c.args.self.now.out.now c.args.self.now.len c.if-self.true (omega arith)); same = refl }
