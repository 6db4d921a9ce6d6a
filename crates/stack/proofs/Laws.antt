-- The first places of a list, read as a stack, and how many values a stack holds.
use Rattle.std.proofs.Common.{◌≡◌, ℕ, ◌+◌, ◌-◌, ◌<◌, ◌≤◌, List, [], ◌∷◌, reverse, length, get_or, take, set, Some, sym, refl, ap, ◌∙◌, arith, slice_get}
use Rattle.std.proofs.lemmas.Option.{slice_get-get_or}
use Rattle.std.proofs.lemmas.List.{take_more, take_more_set, reverse-append, length-reverse, length-take-le, get_or-reverse, get_or-take}
use Rattle.stack.specs.declared.Stack.{Stack}
use Rattle.stack.specs.Held.{held, room}
use Rattle.stack.specs.Items.{items}

-- one place more, written before
pub items-push : {X : Type 0} (xs : List X) (n : ℕ) (x : X) → n < length xs → items (set xs n x) (n + 1) ≡ x ∷ items xs n
unfolding items
items-push xs n x h = ap reverse (take_more_set xs n x h) ∙ reverse-append (take n xs) (x ∷ [])

-- one place more is one value more on top
pub items-pop : {X : Type 0} (xs : List X) (n : ℕ) (d : X) → n < length xs → items xs (n + 1) ≡ get_or xs n d ∷ items xs n
unfolding items
items-pop xs n d h = ap reverse (take_more xs n d h) ∙ reverse-append (take n xs) (get_or xs n d ∷ [])

-- no place holds nothing
pub items-none : {X : Type 0} (xs : List X) → items xs 0 ≡ []
unfolding items
items-none xs = refl

-- n places hold n values
pub length-items : {X : Type 0} (xs : List X) (n : ℕ) → n ≤ length xs → length (items xs n) ≡ n
unfolding items
length-items xs n h = length-reverse (take n xs) ∙ length-take-le n xs h

-- the value k below the top stands k places before the last
pub slice_get-items : {X : Type 0} (xs : List X) (n k : ℕ) (d : X) → n ≤ length xs → k < n → slice_get (items xs n) k ≡ Some (get_or xs (n - 1 - k) d)
unfolding items
slice_get-items xs n k d h l =
    let e : length (take n xs) ≡ n = length-take-le n xs h in
    let lt : k < length (take n xs) = omega arith in
    slice_get-get_or (reverse (take n xs)) k d (omega (arith, length-reverse (take n xs)))
    ∙ ap (λ v. Some v) (get_or-reverse (take n xs) k d lt ∙ ap (λ m. get_or (take n xs) (m - 1 - k) d) e ∙ get_or-take n xs (n - 1 - k) d (omega arith))

-- a stack holds as many values as its length says
pub length-held : {X : Type 0} (s : Stack X) → length (held s) ≡ s.len
length-held s = length-items s.places.now s.len s.fits

-- a stack holds no more than it has room for
pub held-within-room : {X : Type 0} (s : Stack X) → length (held s) ≤ room s
held-within-room s = omega (arith, length-held s, s.fits)

-- a stack of no length holds nothing
pub nothing_held : {X : Type 0} (s : Stack X) → s.len ≡ 0 → held s ≡ []
nothing_held s e = ap (items s.places.now) e ∙ items-none s.places.now

-- any other holds what stands in its last place, and under it what a stack one shorter holds
pub top_held : {X : Type 0} (s : Stack X) (d : X) → (s.len ≡ 0 → ⊥) → held s ≡ get_or s.places.now (s.len - 1) d ∷ items s.places.now (s.len - 1)
top_held s d n =
    let e : s.len - 1 + 1 ≡ s.len = omega (arith, n) in
    sym (ap (items s.places.now) e) ∙ items-pop s.places.now (s.len - 1) d (omega (arith, s.fits))
