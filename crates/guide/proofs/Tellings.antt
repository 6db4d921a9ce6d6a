-- What a report tells, from what reading answered.
use Rattle.std.proofs.Common.{◌≡◌, ℕ, List, Err, String, string_bytes, Result, sym, ap, ◌∙◌, subst, arith}
use Rattle.std.specs.declared.alloc.Global.{Global}
use Rattle.codes.specs.declared.Refusal.{Refusal}
use Rattle.syntax.specs.Bounds.{working_places}
use Rattle.syntax.specs.Code.{Source}
use Rattle.grammar.specs.Reading.{Verdict, taken, refused, parse, reading}
use Rattle.grammar.proofs.Reading.{reading_in_enough_places}
use Rattle.reader.specs.declared.reading.ReadError.{ReadError}
use Rattle.reader.specs.Reads.{Blames}
use Rattle.guide.specs.declared.report.ReportError.{ReportError}
use Rattle.guide.specs.declared.report.ReportError.TheVariants.{Refused}
use Rattle.guide.specs.Reports.{refused_line, spot_of, Told, RefusedLine}
use Rattle.guide.specs.RunReports.{arguments_of, Ran, RunTold}

abbrev pub Told_result : Type 0
Told_result = Result (String Global) ReportError

-- a text that was read
pub tells_taken : (text : List ℕ) (p : Source) (r : Told_result) → reading working_places text ≡ taken p → Told text (taken p) r → Told text (parse text) r
tells_taken text p r e t = subst (λ (v : Verdict). Told text v r) (sym e ∙ reading_in_enough_places working_places text (omega arith)) t

-- a text that was refused
told_by : (text : List ℕ) (v : Verdict) (x : ReadError) (s : String Global) → Blames text v x → RefusedLine text x (string_bytes s) → Told text v (Err (Refused s))
told_by text (taken p) x s b l = absurd b
told_by text (refused e ts) x s b l = (x.at, l.0, b.1, l.1 ∙ ap (λ (c : Refusal). refused_line c (spot_of text x.at) l.0) b.0)

pub tells_refused : (text : List ℕ) (x : ReadError) (s : String Global) → Blames text (reading working_places text) x → RefusedLine text x (string_bytes s) → Told text (parse text) (Err (Refused s))
tells_refused text x s b l = subst (λ (v : Verdict). Told text v (Err (Refused s))) (reading_in_enough_places working_places text (omega arith)) (told_by text (reading working_places text) x s b l)

-- a report of a run, of a text that was read
pub tells_ran : (text : List ℕ) (ws : List (List ℕ)) (p : Source) (r : Told_result) → reading working_places text ≡ taken p → Ran p (arguments_of ws) r → RunTold text ws (parse text) r
tells_ran text ws p r e t = subst (λ (v : Verdict). RunTold text ws v r) (sym e ∙ reading_in_enough_places working_places text (omega arith)) t

-- and of one that was refused, which comes first
told_first : (text : List ℕ) (ws : List (List ℕ)) (v : Verdict) (x : ReadError) (s : String Global) → Blames text v x → RefusedLine text x (string_bytes s) → RunTold text ws v (Err (Refused s))
told_first text ws (taken p) x s b l = absurd b
told_first text ws (refused e ts) x s b l = told_by text (refused e ts) x s b l

pub tells_refused_first : (text : List ℕ) (ws : List (List ℕ)) (x : ReadError) (s : String Global) → Blames text (reading working_places text) x → RefusedLine text x (string_bytes s) → RunTold text ws (parse text) (Err (Refused s))
tells_refused_first text ws x s b l = subst (λ (v : Verdict). RunTold text ws v (Err (Refused s))) (reading_in_enough_places working_places text (omega arith)) (told_first text ws (reading working_places text) x s b l)
