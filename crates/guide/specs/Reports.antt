-- What is said of a text.
use Rattle.std.specs.Prelude.{◌≡◌, ℕ, Bool, true, false, List, [], ◌++◌, take, Some, None, Ok, Err, String, string_bytes, codes, decimal, Option, Result}
use Rattle.std.specs.declared.alloc.Global.{Global}
use Rattle.codes.specs.declared.Refusal.{Refusal}
use Rattle.codes.specs.Codes.{refusal_text}
use Rattle.syntax.specs.Code.{Source, source, commands, sequences}
use Rattle.grammar.specs.Printing.{print}
use Rattle.grammar.specs.Reading.{Verdict, taken, refused}
use Rattle.reader.specs.declared.reading.ReadError.{ReadError}
use Rattle.reader.specs.Places.{first_place, position_after}
use Rattle.reader.specs.Reads.{Spot as Blamed}
use Rattle.guide.specs.declared.report.Spot.{Spot}
use Rattle.guide.specs.declared.report.Spot.TheVariants.{Nowhere, Token, Argument}
use Rattle.guide.specs.declared.report.ReportError.{ReportError}
use Rattle.guide.specs.declared.report.ReportError.TheVariants.{Refused, Memory, NoText}

-- the line of a program's counts, after the line before it
abbrev pub counts_line : ℕ → ℕ → ℕ → List ℕ
counts_line k n s = codes "\nparameters " ++ (decimal k ++ (codes ", commands " ++ (decimal n ++ (codes ", sequences " ++ (decimal s ++ codes "\n")))))

-- the same of a program
abbrev pub counts_of : Source → List ℕ
counts_of (source k c) = counts_line k (commands c) (sequences c)

-- the program's standard form, and its counts
abbrev pub accepted_lines : Source → List ℕ
accepted_lines p = print p ++ counts_of p

-- where that is which is refused, in words: nothing, a token by its line and column, or an argument
abbrev pub spot_text : Spot → List ℕ
spot_text Nowhere = []
spot_text (Token p) = codes " at line " ++ (decimal p.line ++ (codes ", column " ++ decimal p.column))
spot_text (Argument n) = codes " at argument " ++ decimal n

-- a refusal, where that is which is refused, and a remark
abbrev pub refused_line : Refusal → Spot → List ℕ → List ℕ
refused_line e s remark = codes "refused " ++ (refusal_text e ++ (spot_text s ++ (codes ": " ++ (remark ++ codes "\n"))))

-- the token at a place of a text, by its line and column, if there is one
abbrev pub spot_of : List ℕ → Option ℕ → Spot
spot_of text None = Nowhere
spot_of text (Some n) = Token (position_after first_place (take n text))

-- a report that could not be made, and is no refusal
abbrev pub IsFailure : ReportError → Type 0
IsFailure (Refused s) = ⊥
IsFailure (Memory e) = Unit {0}
IsFailure (NoText e) = Unit {0}

-- want of memory for a report
abbrev pub IsOutOfMemory : ReportError → Type 0
IsOutOfMemory (Refused s) = ⊥
IsOutOfMemory (Memory e) = Unit {0}
IsOutOfMemory (NoText e) = ⊥

-- a program's standard form and counts, unless they could not be told
abbrev pub Standard : Source → Result (String Global) ReportError → Type 0
Standard p (Ok s) = string_bytes s ≡ accepted_lines p
Standard p (Err e) = IsFailure e

-- a report that tells a verdict on a text, unless it could not be made: the program and its counts, or as a refusal the
-- refusal and where the first wrong token stands
abbrev pub Told : List ℕ → Verdict → Result (String Global) ReportError → Type 0
Told text (taken p) r = Standard p r
Told text (refused e ts) (Ok s) = ⊥
Told text (refused e ts) (Err (Refused s)) = (at : Option ℕ) × (remark : List ℕ) × Blamed text ts at × (string_bytes s ≡ refused_line e (spot_of text at) remark)
Told text (refused e ts) (Err (Memory x)) = Unit {0}
Told text (refused e ts) (Err (NoText x)) = ⊥

-- the line of a refusal that an error tells
abbrev pub RefusedLine : List ℕ → ReadError → List ℕ → Type 0
RefusedLine text x line = (remark : List ℕ) × (line ≡ refused_line x.refusal (spot_of text x.at) remark)

-- an error, whichever
abbrev pub Fails : {A E : Type 0} → Result A E → Type 0
Fails (Ok a) = ⊥
Fails (Err e) = Unit {0}

-- what is printed of a report, and whether it tells no refusal; nothing of one that could not be made
abbrev pub Printed : {E : Type 0} → Result (String Global) ReportError → Result (String Global × Bool) E → Type 0
Printed (Ok s) r = r ≡ Ok (s, true)
Printed (Err (Refused s)) r = r ≡ Ok (s, false)
Printed (Err (Memory e)) r = Fails r
Printed (Err (NoText e)) r = Fails r
