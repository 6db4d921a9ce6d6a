-- What is said of a run: its result and its steps, or which argument is wrong.
use Rattle.std.specs.Prelude.{◌≡◌, ℕ, ◌+◌, List, [], ◌∷◌, ◌++◌, ℤ, Ok, Err, Vec, vec_items, String, string_bytes, codes, decimal, Result}
use Rattle.std.specs.Fmt.{signed_decimal}
use Rattle.std.specs.declared.alloc.Global.{Global}
use Rattle.codes.specs.declared.Refusal.{Refusal}
use Rattle.codes.specs.declared.Refusal.TheVariants.{Word, Range}
use Rattle.codes.specs.Codes.{fault_text}
use Rattle.syntax.specs.Code.{Source}
use Rattle.grammar.specs.Reading.{Verdict, taken, refused}
use Rattle.grammar.specs.Words.{Meaning, number, command, huge, strange, meaning}
use Rattle.semantics.specs.declared.Run.{Run}
use Rattle.semantics.specs.Meaning.{Outcome, run}
use Rattle.guide.specs.declared.arguments.WrongArgument.{WrongArgument}
use Rattle.guide.specs.declared.arguments.ArgumentsError.{ArgumentsError}
use Rattle.guide.specs.declared.arguments.ArgumentsError.TheVariants.{Wrong, Memory as NoMemory}
use Rattle.guide.specs.declared.report.ReportError.{ReportError}
use Rattle.guide.specs.declared.report.ReportError.TheVariants.{Refused, Memory, NoText}
use Rattle.guide.specs.declared.report.Spot.TheVariants.{Argument}
use Rattle.guide.specs.Reports.{refused_line, IsOutOfMemory, Told}

-- 1. arguments

-- the number that a word with this meaning is, or its refusal; a name is no number
abbrev pub argument_of : Meaning → Result ℤ Refusal
argument_of (number z) = Ok z
argument_of (command o) = Err Word
argument_of huge = Err Range
argument_of strange = Err Word

-- the n-th argument and those behind it; where it is wrong, it decides
abbrev pub with_first : ℕ → Result ℤ Refusal → Result (List ℤ) WrongArgument → Result (List ℤ) WrongArgument
with_first n (Ok z) (Ok zs) = Ok (z ∷ zs)
with_first n (Ok z) (Err w) = Err w
with_first n (Err e) more = Err (record { refusal = e; at = n })

-- the numbers that some words are, the first word counted as the n-th; or the first wrong one
abbrev pub arguments_from : ℕ → List (List ℕ) → Result (List ℤ) WrongArgument
arguments_from n [] = Ok []
arguments_from n (w ∷ ws) = with_first n (argument_of (meaning w)) (arguments_from (n + 1) ws)

-- the same of words counted from 1
abbrev pub arguments_of : List (List ℕ) → Result (List ℤ) WrongArgument
arguments_of ws = arguments_from 1 ws

-- want of memory
abbrev pub IsMemory : ArgumentsError → Type 0
IsMemory (Wrong w) = ⊥
IsMemory (NoMemory e) = Unit {0}

-- a call that collects such numbers, or tells the first wrong word, unless there is no memory
abbrev pub Collects : Result (List ℤ) WrongArgument → Result (Vec ℤ Global) ArgumentsError → Type 0
Collects (Ok zs) (Ok v) = vec_items v ≡ zs
Collects (Ok zs) (Err e) = IsMemory e
Collects (Err w) (Ok v) = ⊥
Collects (Err w) (Err (Wrong x)) = x ≡ w
Collects (Err w) (Err (NoMemory e)) = Unit {0}

-- a wrong argument, and a remark
abbrev pub wrong_line : WrongArgument → List ℕ → List ℕ
wrong_line w remark = refused_line w.refusal (Argument w.at) remark

-- 2. runs

-- how many steps, and the end of the line
abbrev pub steps_text : ℕ → List ℕ
steps_text k = codes " in " ++ (decimal k ++ codes " steps\n")

-- what a run came to, in so many steps
abbrev pub outcome_line : Outcome → ℕ → List ℕ
outcome_line (Ok z) k = codes "result " ++ (signed_decimal z ++ steps_text k)
outcome_line (Err f) k = codes "fault " ++ (fault_text f ++ steps_text k)

-- the line of a run
abbrev pub run_line : Run → List ℕ
run_line r = outcome_line r.outcome r.spent.steps

-- 3. reports

-- a report of a program on its arguments, unless it could not be made: what its run comes to, or as a refusal the wrong argument
abbrev pub Ran : Source → Result (List ℤ) WrongArgument → Result (String Global) ReportError → Type 0
Ran p (Ok ks) (Ok s) = string_bytes s ≡ run_line (run p ks)
Ran p (Ok ks) (Err e) = IsOutOfMemory e
Ran p (Err w) (Ok s) = ⊥
Ran p (Err w) (Err (Refused s)) = (remark : List ℕ) × (string_bytes s ≡ wrong_line w remark)
Ran p (Err w) (Err (Memory x)) = Unit {0}
Ran p (Err w) (Err (NoText x)) = ⊥

-- a report of a text on some words: the text's refusal, which comes first, or what its program comes to on the numbers that
-- the words are
abbrev pub RunTold : List ℕ → List (List ℕ) → Verdict → Result (String Global) ReportError → Type 0
RunTold text ws (taken p) r = Ran p (arguments_of ws) r
RunTold text ws (refused e ts) r = Told text (refused e ts) r
