-- A program as a tree.
use Rattle.std.specs.Prelude.{◌≡◌, ℕ, suc, ◌+◌, ◌≤◌, true, ℤ}
use Rattle.arithmetic.specs.Numbers.{in_range}
use Rattle.syntax.specs.declared.Name.{Name}
use Rattle.syntax.specs.Bounds.{most_commands, most_parameters}

-- a chain of commands: its end, or a command and the chain after it; a sequence has a chain of its own inside
pub data Code : Type 0 where
  end : Code
  numeral : ℤ → Code → Code
  name : Name → Code → Code
  sequence : Code → Code → Code

-- a program: how many parameters it has, and its commands
pub data Source : Type 0 where
  source : ℕ → Code → Source

abbrev pub parameters_of : Source → ℕ
parameters_of (source k c) = k

abbrev pub code_of : Source → Code
code_of (source k c) = c

-- one chain and then another
abbrev pub append : Code → Code → Code
append end q = q
append (numeral k p) q = numeral k (append p q)
append (name o p) q = name o (append p q)
append (sequence b p) q = sequence b (append p q)

-- how many commands, inner ones counted
abbrev pub commands : Code → ℕ
commands end = 0
commands (numeral k q) = suc (commands q)
commands (name o q) = suc (commands q)
commands (sequence b q) = suc (commands b + commands q)

-- how many of them are sequences
abbrev pub sequences : Code → ℕ
sequences end = 0
sequences (numeral k q) = sequences q
sequences (name o q) = sequences q
sequences (sequence b q) = suc (sequences b + sequences q)

-- every numeral is a number of the language
abbrev pub Ranged : Code → Type 0
Ranged end = Unit {0}
Ranged (numeral k q) = (in_range k ≡ true) × Ranged q
Ranged (name o q) = Ranged q
Ranged (sequence b q) = Ranged b × Ranged q

-- a program within the bounds of the language
pub record Bounded (p : Source) : Type 0 where
  pub parameters : parameters_of p ≤ most_parameters
  pub commands : commands (code_of p) ≤ most_commands
  pub numerals : Ranged (code_of p)
