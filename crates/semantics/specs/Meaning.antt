-- What a chain of commands means: a transformer of stacks, with what its run spends; and what a program means.
use Rattle.std.specs.Prelude.{ℕ, zero, suc, ◌+◌, cond, List, [], ◌∷◌, map, length, ℤ, Ok, Err, Result, ◌==◌}
use Rattle.codes.specs.declared.Fault.{Fault}
use Rattle.codes.specs.declared.Fault.TheVariants.{Arguments, Empty, SequenceOnTop}
use Rattle.syntax.specs.declared.Name.{Name}
use Rattle.syntax.specs.Code.{Code, end, numeral, name, sequence, commands, Source, source}
use Rattle.semantics.specs.declared.Value.{Value}
use Rattle.semantics.specs.declared.Value.TheVariants.{Numeral, Sequence}
use Rattle.semantics.specs.declared.Spent.{Spent}
use Rattle.semantics.specs.declared.Run.{Run}
use Rattle.semantics.specs.Commands.{Stack, Effect, next, enter, stop, act}

-- 1. what is spent

abbrev pub nothing : Spent
nothing = record { steps = 0 }

abbrev pub one_step : Spent
one_step = record { steps = 1 }

abbrev pub plus : Spent → Spent → Spent
plus x y = record { steps = x.steps + y.steps }

-- what a name spends on a stack
abbrev pub price : {A : Type 0} → Name → Stack A → Spent
price o s = one_step

-- 2. how commands end, and what they have spent: with a stack, or at a fault

pub data Course : Type 0 where
  done : Stack Code → Spent → Course
  stopped : Fault → Spent → Course

-- so much was spent before
abbrev pub spend : Spent → Course → Course
spend x (done s y) = done s (plus x y)
spend x (stopped f y) = stopped f (plus x y)

-- one transformer after the other
abbrev pub then : Course → (Stack Code → Course) → Course
then (done s x) f = spend x (f s)
then (stopped e x) f = stopped e x

-- 3. the valuation, where m gives the meaning of a sequence that is entered

abbrev pub Meaning : Type 0
Meaning = Code → Stack Code → Course

-- what the effect of a name comes to
abbrev pub carried : Meaning → Effect Code → Course
carried m (next s) = done s nothing
carried m (enter b s) = m b s
carried m (stop f) = stopped f nothing

-- a name
abbrev pub named : Meaning → Name → Stack Code → Course
named m o s = spend (price o s) (carried m (act o s))

-- a numeral or a sequence is pushed
abbrev pub pushed : Value Code → Stack Code → Course
pushed v s = done (v ∷ s) one_step

-- a chain: its first command, and then the rest
abbrev pub valued : Meaning → Code → Stack Code → Course
valued m end s = done s nothing
valued m (numeral k q) s = then (pushed (Numeral k) s) (valued m q)
valued m (sequence b q) s = then (pushed (Sequence b) s) (valued m q)
valued m (name o q) s = then (named m o s) (valued m q)

-- 4. the meaning

-- the meaning of a chain that runs at most n commands; 0 leaves nothing to run
abbrev pub within : ℕ → Code → Stack Code → Course
within zero q s = done s nothing
within (suc n) q s = valued (within n) q s

-- the commands in the sequences on a stack
abbrev pub stacked : Stack Code → ℕ
stacked [] = 0
stacked (Numeral k ∷ s) = stacked s
stacked (Sequence b ∷ s) = commands b + stacked s

-- a chain can run its own commands and those on the stack, each once
unfoldable pub meaning : Code → Stack Code → Course
meaning q s = within (commands q + stacked s) q s

-- 5. programs

-- what a run comes to: a number, or the fault at which it stopped
abbrev pub Outcome : Type 0
Outcome = Result ℤ Fault

-- what the last command leaves: the number on top, unless nothing or a sequence is there
abbrev pub result : {A : Type 0} → Stack A → Outcome
result [] = Err Empty
result (Numeral k ∷ s) = Ok k
result (Sequence q ∷ s) = Err SequenceOnTop

abbrev pub concluded : Course → Run
concluded (done s x) = record { outcome = result s; spent = x }
concluded (stopped f x) = record { outcome = Err f; spent = x }

-- numbers as a stack, the first on top
abbrev pub numbers : {A : Type 0} → List ℤ → Stack A
numbers ks = map Numeral ks

-- a program on its arguments; another number of arguments than it has parameters is a fault, and nothing is run
unfoldable pub run : Source → List ℤ → Run
run (source n c) ks = cond (length ks == n) (concluded (meaning c (numbers ks))) (record { outcome = Err Arguments; spent = nothing })
