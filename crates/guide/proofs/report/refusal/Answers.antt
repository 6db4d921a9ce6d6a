use Rattle.std.proofs.Common.{◌≡◌, string_bytes, ap, ◌∙◌}
use Rattle.std.proofs.lemmas.Result.{IfOk-weaker}
use Rattle.guide.specs.Reports.{refused_line, RefusedLine}
use Rattle.guide.specs.declared.report.Spot.{Spot}
use Rattle.guide.proofs.report.refusal.Goals as goal

-- some remark stands there
pub returns : goal.returns
returns c =
    IfOk-weaker c.refusal_line.result (λ s. string_bytes s ≡ refused_line c.args.error.refusal c.token_at.result c.if-is_empty.remark.now) (λ s. RefusedLine c.args.text.now c.args.error (string_bytes s))
    (λ s e. (c.if-is_empty.remark.now, e ∙ ap (λ (p : Spot). refused_line c.args.error.refusal p c.if-is_empty.remark.now) c.token_at.ensures))
    c.refusal_line.ensures
