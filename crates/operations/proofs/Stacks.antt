-- What stands on a stack as far as it was looked at, and a push that finds room.
use Rattle.std.proofs.Common.{◌≡◌, ℕ, suc, ◌<◌, Bool, cond, ltb, List, [], ◌∷◌, length, Some, sym, refl, ap, ◌∙◌, arith, slice_get}
use Rattle.std.proofs.lemmas.Bool.{cond-true, lt-ltb}
use Rattle.stack.specs.declared.Stack.{Stack}
use Rattle.stack.specs.Held.{held, room}
use Rattle.stack.specs.Items.{tail_of}
use Rattle.stack.proofs.Laws.{held-within-room}

module _ {X : Type 0} where
  -- a list with a value at hand
  pub one_of : (xs : List X) (v : X) → slice_get xs 0 ≡ Some v → xs ≡ v ∷ tail_of xs
  one_of [] v p = let z : ◌≡◌ {A = ℕ} 0 1 = cc in absurd (omega arith)
  one_of (x ∷ xs) v p = ap (λ (y : X). y ∷ xs) (cc)

  -- what stands one further down stands in the rest
  pub rest_of : (xs : List X) (n : ℕ) → slice_get xs (suc n) ≡ slice_get (tail_of xs) n
  rest_of [] n = refl
  rest_of (x ∷ xs) n = refl

  -- a list with two values at hand
  pub two_of : (xs : List X) (v w : X) → slice_get xs 0 ≡ Some v → slice_get xs 1 ≡ Some w → xs ≡ v ∷ w ∷ tail_of (tail_of xs)
  two_of xs v w p q = one_of xs v p ∙ ap (λ (l : List X). v ∷ l) (one_of (tail_of xs) w (sym (rest_of xs 0) ∙ q))

  -- a list with three values at hand
  pub three_of : (xs : List X) (v w x : X) → slice_get xs 0 ≡ Some v → slice_get xs 1 ≡ Some w → slice_get xs 2 ≡ Some x → xs ≡ v ∷ w ∷ x ∷ tail_of (tail_of (tail_of xs))
  three_of xs v w x p q r = one_of xs v p ∙ ap (λ (l : List X). v ∷ l) (two_of (tail_of xs) w x (sym (rest_of xs 0) ∙ q) (sym (rest_of xs 1) ∙ r))

  -- what a push of x promises: b says whether there was room
  pub record Pushed (p t : Stack X) (x : X) (b : Bool) : Type 0 where
    pub size : room t ≡ room p
    pub same : t.places.ghost_name ≡ p.places.ghost_name
    pub fits : b ≡ ltb (length (held p)) (room p)
    pub items : held t ≡ cond b (x ∷ held p) (held p)

  -- a push onto fewer values than a stack of the same room holds
  pub pushes : (s p t : Stack X) (x : X) (b : Bool) → length (held p) < length (held s) → room p ≡ room s → Pushed p t x b → held t ≡ x ∷ held p
  pushes s p t x b less size push =
      let within = held-within-room s in
      push.items ∙ cond-true b (x ∷ held p) (held p) (push.fits ∙ lt-ltb (length (held p)) (room p) (omega arith))
