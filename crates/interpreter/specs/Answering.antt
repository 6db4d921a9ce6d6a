-- What running a program answers.
use Rattle.std.specs.Prelude.{ℕ, cond, ◌||◌, List, ℤ, Ok, Err, Result, nat_lt}
use Rattle.codes.specs.declared.Refusal.{Refusal}
use Rattle.codes.specs.declared.Refusal.TheVariants.{Space}
use Rattle.syntax.specs.Bounds.{working_places}
use Rattle.syntax.specs.Code.{Source}
use Rattle.semantics.specs.declared.Run.{Run}
use Rattle.semantics.specs.Meaning.{run}

-- what the program means on these arguments, unless there are too few places for values or for chains
abbrev pub run_answer : ℕ → ℕ → Source → List ℤ → Result Run Refusal
run_answer values chains p ks = cond (nat_lt values working_places || nat_lt chains working_places) (Err Space) (Ok (run p ks))
