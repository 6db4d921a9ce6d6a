-- What holds of every run.
use Rattle.std.specs.Prelude.{◌≡◌, ◌+◌, ◌≤◌, true, List, [], ◌∷◌, ℤ, Ok}
use Rattle.arithmetic.specs.Numbers.{in_range}
use Rattle.syntax.specs.declared.Name.{Name}
use Rattle.syntax.specs.declared.Name.TheVariants.{Exec}
use Rattle.syntax.specs.Code.{Code, end, numeral, name, sequence, append, commands, Ranged, Source, code_of}
use Rattle.semantics.specs.declared.Value.TheVariants.{Numeral, Sequence}
use Rattle.semantics.specs.declared.Spent.{Spent}
use Rattle.semantics.specs.declared.Run.{Run}
use Rattle.semantics.specs.Commands.{Stack}
use Rattle.semantics.specs.Meaning.{Course, done, stopped, nothing, one_step, plus, spend, then, Meaning, named, pushed, stacked, meaning, run}
use Rattle.semantics.specs.Running.{Runs, Ends}

-- the clauses of a meaning: no command leaves the stack, and a command comes before the rest of its chain
pub record Valuation (m : Meaning) : Type 0 where
  pub ends : (s : Stack Code) → m end s ≡ done s nothing
  pub numerals : (k : ℤ) (q : Code) (s : Stack Code) → m (numeral k q) s ≡ then (pushed (Numeral k) s) (m q)
  pub sequences : (b q : Code) (s : Stack Code) → m (sequence b q) s ≡ then (pushed (Sequence b) s) (m q)
  pub names : (o : Name) (q : Code) (s : Stack Code) → m (name o q) s ≡ then (named m o s) (m q)

-- the meaning has these clauses, and nothing else has
pub record OneValuation : Type 0 where
  pub clauses : Valuation meaning
  pub only : (m : Meaning) → Valuation m → (q : Code) (s : Stack Code) → m q s ≡ meaning q s

-- wherever a chain is cut, its meaning is that of the first part and then that of the second
abbrev pub Compositional : Type 0
Compositional = (p q : Code) (s : Stack Code) → meaning (append p q) s ≡ then (meaning p s) (meaning q)

-- a sequence that is pushed and executed at once is its contents, but for these two steps
abbrev pub ExecRunsContents : Type 0
ExecRunsContents = (b q : Code) (s : Stack Code) → meaning (sequence b (name Exec q)) s ≡ spend (plus one_step one_step) (meaning (append b q) s)

-- every run ends, command by command, as the meaning says and in no other way
pub record EveryRunEnds : Type 0 where
  pub chains : (q : Code) (s : Stack Code) → Runs q s (meaning q s)
  pub chains_only : (q : Code) (s : Stack Code) (c : Course) → Runs q s c → c ≡ meaning q s
  pub programs : (p : Source) (ks : List ℤ) → Ends p ks (run p ks)
  pub programs_only : (p : Source) (ks : List ℤ) (r : Run) → Ends p ks r → r ≡ run p ks

-- what a course has spent
abbrev pub spent_of : Course → Spent
spent_of (done s x) = x
spent_of (stopped f x) = x

-- no run takes more steps than there are commands: in the chain and in the sequences on the stack; in the program
pub record StepsWithinCommands : Type 0 where
  pub chains : (q : Code) (s : Stack Code) → (spent_of (meaning q s)).steps ≤ commands q + stacked s
  pub programs : (p : Source) (ks : List ℤ) → (run p ks).spent.steps ≤ commands (code_of p)

-- every number on a stack, in its sequences too, is one of the language
abbrev pub Within : Stack Code → Type 0
Within [] = Unit {0}
Within (Numeral k ∷ s) = (in_range k ≡ true) × Within s
Within (Sequence b ∷ s) = Ranged b × Within s

-- every argument is one
abbrev pub NumbersWithin : List ℤ → Type 0
NumbersWithin [] = Unit {0}
NumbersWithin (k ∷ ks) = (in_range k ≡ true) × NumbersWithin ks

-- numbers stay within the range: on every stack, and in what a program gives
pub record StaysInRange : Type 0 where
  pub chains : (q : Code) (s t : Stack Code) (x : Spent) → Ranged q → Within s → meaning q s ≡ done t x → Within t
  pub programs : (p : Source) (ks : List ℤ) (k : ℤ) → Ranged (code_of p) → NumbersWithin ks → (run p ks).outcome ≡ Ok k → in_range k ≡ true
