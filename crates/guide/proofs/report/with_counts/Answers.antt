use Rattle.std.proofs.Common.{◌≡◌, ℕ, ◌++◌, string_bytes, ap, ◌∙◌}
use Rattle.std.proofs.lemmas.Result.{IfOk-weaker}
use Rattle.syntax.specs.Code.{commands}
use Rattle.program.specs.Programs.{program_of, tree_of}
use Rattle.guide.specs.Reports.{counts_line, counts_of}
use Rattle.guide.proofs.report.with_counts.Goals as goal

-- the counts are the program's
pub returns : goal.returns
returns c =
    let p = c.args.program.now in
    IfOk-weaker c.format.result (λ s. string_bytes s ≡ c.args.line.now ++ counts_line c.parameters-parameters.result c.commands-commands.result c.sequences-sequences.result) (λ s. string_bytes s ≡ c.args.line.now ++ counts_of (program_of p))
    (λ s e. e
    ∙ ap (λ (k : ℕ). c.args.line.now ++ counts_line k c.commands-commands.result c.sequences-sequences.result) c.parameters-parameters.ensures
    ∙ ap (λ (k : ℕ). c.args.line.now ++ counts_line p.table.parameters k c.sequences-sequences.result) c.commands-commands.ensures
    ∙ ap (λ (k : ℕ). c.args.line.now ++ counts_line p.table.parameters (commands (tree_of p)) k) c.sequences-sequences.ensures)
    c.format.ensures.ok
