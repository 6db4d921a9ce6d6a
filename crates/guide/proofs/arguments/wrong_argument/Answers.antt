use Rattle.std.proofs.Common.{◌≡◌, ℕ, List, string_bytes}
use Rattle.std.proofs.lemmas.Result.{IfOk-weaker}
use Rattle.guide.specs.RunReports.{wrong_line}
use Rattle.guide.proofs.arguments.wrong_argument.Goals as goal

-- some remark stands there
pub returns : goal.returns
returns c =
    IfOk-weaker c.refusal_line.result (λ s. string_bytes s ≡ wrong_line c.args.wrong c.match-wrong.remark.now) (λ s. (remark : List ℕ) × (string_bytes s ≡ wrong_line c.args.wrong remark))
    (λ s e. (c.match-wrong.remark.now, e))
    c.refusal_line.ensures
