-- Lists as stacks: what stands at the front of a list of places, and a list's first and its rest.
use Rattle.std.specs.Prelude.{ℕ, List, [], ◌∷◌, reverse, take, Some, None, Option}

-- the first n of xs, the last first
unfoldable pub items : {A : Type 0} → List A → ℕ → List A
items xs n = reverse (take n xs)

-- the first of a list, if it has one
abbrev pub head_of : {A : Type 0} → List A → Option A
head_of [] = None
head_of (x ∷ xs) = Some x

-- a list without its first
abbrev pub tail_of : {A : Type 0} → List A → List A
tail_of [] = []
tail_of (x ∷ xs) = xs
