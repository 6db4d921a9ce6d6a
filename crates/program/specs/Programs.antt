-- The program that a record stands for.
use Rattle.std.specs.Prelude.{◌≡◌, ℕ, ◌≤◌, Ok, Err, Result}
use Rattle.syntax.specs.Bounds.{most_parameters}
use Rattle.syntax.specs.Code.{Code, Source, commands}
use Rattle.layout.specs.Tables.{tree, source_of, at, chain, reached, counting}
use Rattle.program.specs.declared.arity.Arity.{Arity}
use Rattle.program.specs.declared.arity.TooManyParameters.{TooManyParameters}
use Rattle.program.specs.declared.record.Program.{Program}

-- the program that a record stands for: its parameter count and its tree
abbrev pub program_of : Program → Source
program_of p = source_of p.table

-- its tree
abbrev pub tree_of : Program → Code
tree_of p = tree p.table

-- the chain that begins at a link; 0 begins the empty one
abbrev pub from : Program → ℕ → Code
from p v = chain p.table.places v

-- a count of parameters, where there may be so many
abbrev pub Counts : ℕ → Result Arity TooManyParameters → Type 0
Counts n (Err e) = n ≤ most_parameters → ⊥
Counts n (Ok a) = a.count ≡ n

-- a walk from the head passes the places 1, 2, 3 up to the number of commands, each just once, and no other
abbrev pub ReachesEachPlaceOnce : Type 0
ReachesEachPlaceOnce = (p : Program) → reached p.table ≡ counting 1 (commands (tree_of p))

-- two records of one program agree in all that is used: the counts, the head's link and every used place
pub record SameRecord (p q : Program) : Type 0 where
  pub parameters : p.table.parameters ≡ q.table.parameters
  pub commands : p.table.commands ≡ q.table.commands
  pub sequences : p.table.sequences ≡ q.table.sequences
  pub head : (at p.table.places 0).next ≡ (at q.table.places 0).next
  pub places : (i : ℕ) → 1 ≤ i → i ≤ p.table.commands → at p.table.places i ≡ at q.table.places i

abbrev pub OneProgramOneRecord : Type 0
OneProgramOneRecord = (p q : Program) → program_of p ≡ program_of q → SameRecord p q
