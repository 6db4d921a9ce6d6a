-- What a call answers to what a name does, and what it leaves on the stack.
use Rattle.std.specs.Prelude.{◌≡◌, ℕ, zero, suc, List, ℤ, pos, negsuc, Some, None, Ok, Err, Option, Result}
use Rattle.codes.specs.declared.Fault.{Fault}
use Rattle.codes.specs.declared.Fault.TheVariants.{NoNumeral}
use Rattle.stack.specs.declared.Stack.{Stack}
use Rattle.stack.specs.Held.{held, room}
use Rattle.syntax.specs.declared.Name.{Name}
use Rattle.semantics.specs.declared.Value.{Value}
use Rattle.semantics.specs.declared.Value.TheVariants.{Numeral, Sequence}
use Rattle.semantics.specs.Commands.{Effect, next, enter, stop, act}

-- the sequence that a machine enters then, if it enters one, or the fault at which it stops
abbrev pub answer_of : Effect ℕ → Result (Option ℕ) Fault
answer_of (next s) = Ok None
answer_of (enter q s) = Ok (Some q)
answer_of (stop f) = Err f

-- what the stack holds then: a fault leaves it as it was
abbrev pub left_by : Effect ℕ → List (Value ℕ) → List (Value ℕ)
left_by (next s) old = s
left_by (enter q s) old = s
left_by (stop f) old = old

-- a call that applies a name: its answer, what the stack holds, and that the stack stands over the same places
pub record Applied (n : Name) (before after : Stack (Value ℕ)) (r : Result (Option ℕ) Fault) : Type 0 where
  pub answer : r ≡ answer_of (act n (held before))
  pub values : held after ≡ left_by (act n (held before)) (held before)
  pub size : room after ≡ room before
  pub same : after.places.ghost_name ≡ before.places.ghost_name

-- the number that a value is, or the fault that it is none
abbrev pub number_in : Value ℕ → Result ℤ Fault
number_in (Numeral k) = Ok k
number_in (Sequence q) = Err NoNumeral

-- how far below the top an index counts, from 1 at the top
abbrev pub depth_of_lem : ℤ → Option ℕ
depth_of_lem (pos zero) = None
depth_of_lem (pos (suc n)) = Some n
depth_of_lem (negsuc n) = None
