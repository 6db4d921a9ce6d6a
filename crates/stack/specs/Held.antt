-- What a stack holds, how much it can hold, and what stands in its memory.
use Rattle.std.specs.Prelude.{ℕ, List, length}
use Rattle.stack.specs.declared.Stack.{Stack}
use Rattle.stack.specs.Items.{items}

-- the places lent to a stack, as they stand
abbrev pub memory : {A : Type 0} → Stack A → List A
memory s = s.places.now

-- what a stack holds, the top first
abbrev pub held : {A : Type 0} → Stack A → List A
held s = items (memory s) s.len

-- how many values a stack can hold
abbrev pub room : {A : Type 0} → Stack A → ℕ
room s = length (memory s)
