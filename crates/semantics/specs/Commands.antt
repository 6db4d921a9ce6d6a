-- What each name does to a stack of values. A sequence is a value of any kind A that stands for its commands: the commands
-- themselves in the meaning of a program, the place where they are kept in a machine.
use Rattle.std.specs.Prelude.{zero, suc, Bool, cond, ◌&&◌, List, [], ◌∷◌, ℤ, pos, negsuc, Some, None, Ok, Err, Option, Result, ◌==◌, int_le, int_lt, unsigned_abs, slice_get}
use Rattle.codes.specs.declared.Fault.{Fault}
use Rattle.codes.specs.declared.Fault.TheVariants.{Underflow, NoNumeral, NoSequence, Index}
use Rattle.arithmetic.specs.Operations.{sum, difference, product, divided}
use Rattle.syntax.specs.declared.Operator.{Operator}
use Rattle.syntax.specs.declared.Operator.TheVariants.{Add, Div, Eq, Gt, Lt, Mul, Rem, Sub}
use Rattle.syntax.specs.declared.Name.{Name}
use Rattle.syntax.specs.declared.Name.TheVariants.{Operator as operator, Exec, Nget, Pop, Sel, Swap}
use Rattle.semantics.specs.declared.Value.{Value}
use Rattle.semantics.specs.declared.Value.TheVariants.{Numeral, Sequence}

-- the values at hand, the top first
abbrev pub Stack : Type 0 → Type 0
Stack A = List (Value A)

-- what a name does: it leaves a stack, it enters a sequence with the stack below, or it stops at a fault
pub data Effect (A : Type 0) : Type 0 where
  next : Stack A → Effect A
  enter : A → Stack A → Effect A
  stop : Fault → Effect A

-- a comparison gives 1 or 0
abbrev pub truth : Bool → ℤ
truth b = cond b (pos 1) (pos 0)

abbrev pub quotient_in : Result (ℤ × ℤ) Fault → Result ℤ Fault
quotient_in (Ok (q, r)) = Ok q
quotient_in (Err f) = Err f

abbrev pub remainder_in : Result (ℤ × ℤ) Fault → Result ℤ Fault
remainder_in (Ok (q, r)) = Ok r
remainder_in (Err f) = Err f

-- what an operator gives for a on the left and b on the right, or its fault
abbrev pub compute : Operator → ℤ → ℤ → Result ℤ Fault
compute Add a b = Ok (sum a b)
compute Sub a b = Ok (difference a b)
compute Mul a b = Ok (product a b)
compute Div a b = quotient_in (divided a b)
compute Rem a b = remainder_in (divided a b)
compute Lt a b = Ok (truth (int_lt a b))
compute Eq a b = Ok (truth (int_le a b && int_le b a))
compute Gt a b = Ok (truth (int_lt b a))

-- the first of two values where a number is 0, else the second
abbrev pub chosen : {V : Type 0} → ℤ → V → V → V
chosen k v w = cond (unsigned_abs k == 0) v w

module _ {A : Type 0} where
  -- a number is pushed, or there is a fault
  abbrev pub settle : Result ℤ Fault → Stack A → Effect A
  settle (Ok k) s = next (Numeral k ∷ s)
  settle (Err f) s = stop f

  -- an operator on the top value and the one below it, which is its left side
  abbrev pub operate : Operator → Value A → Value A → Stack A → Effect A
  operate o (Numeral b) (Numeral a) s = settle (compute o a b) s
  operate o (Numeral b) (Sequence p) s = stop NoNumeral
  operate o (Sequence q) w s = stop NoNumeral

  -- of the two values on top, the first where the third is 0, else the second
  abbrev pub select : Value A → Value A → Value A → Stack A → Effect A
  select v w (Numeral k) s = next (chosen k v w ∷ s)
  select v w (Sequence q) s = stop NoNumeral

  -- the value with this number, counted from 1 at the top
  abbrev pub counted : Stack A → ℤ → Option (Value A)
  counted s (pos zero) = None
  counted s (pos (suc n)) = slice_get s n
  counted s (negsuc n) = None

  -- a numeral is copied to the top
  abbrev pub copy : Option (Value A) → Stack A → Effect A
  copy None s = stop Index
  copy (Some (Numeral k)) s = next (Numeral k ∷ s)
  copy (Some (Sequence q)) s = stop NoNumeral

  -- the top value is a number that says which of the others is copied
  abbrev pub fetch : Value A → Stack A → Effect A
  fetch (Numeral k) s = copy (counted s k) s
  fetch (Sequence q) s = stop NoNumeral

  -- a sequence is entered
  abbrev pub execute : Value A → Stack A → Effect A
  execute (Numeral k) s = stop NoSequence
  execute (Sequence q) s = enter q s

  -- what a name does; too few values come first
  abbrev pub act : Name → Stack A → Effect A
  act (operator o) [] = stop Underflow
  act (operator o) (v ∷ []) = stop Underflow
  act (operator o) (v ∷ w ∷ s) = operate o v w s
  act Pop [] = stop Underflow
  act Pop (v ∷ s) = next s
  act Swap [] = stop Underflow
  act Swap (v ∷ []) = stop Underflow
  act Swap (v ∷ w ∷ s) = next (w ∷ v ∷ s)
  act Sel [] = stop Underflow
  act Sel (v ∷ []) = stop Underflow
  act Sel (v ∷ w ∷ []) = stop Underflow
  act Sel (v ∷ w ∷ x ∷ s) = select v w x s
  act Nget [] = stop Underflow
  act Nget (v ∷ s) = fetch v s
  act Exec [] = stop Underflow
  act Exec (v ∷ s) = execute v s
