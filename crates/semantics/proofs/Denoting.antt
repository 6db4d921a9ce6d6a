-- A name does to a machine's stack what it does to the stack that this stands for.
use Rattle.std.proofs.Common.{◌≡◌, ℕ, suc, ◌≤◌, List, [], ◌∷◌, length, ℤ, sym, refl, ap, ◌∙◌, arith}
use Rattle.syntax.specs.declared.Name.{Name}
use Rattle.semantics.specs.declared.Value.TheVariants.{Numeral, Sequence}
use Rattle.semantics.proofs.Alike.{numerals, sequences, Alikes, none, more}
use Rattle.semantics.specs.Commands.{Stack, Effect, next, enter, stop, act}
use Rattle.semantics.specs.Denoting.{denotes}
use Rattle.semantics.specs.Meaning.{result, numbers}
use Rattle.semantics.proofs.Acts.{weights, Likes, nexts, enters, stops, acts, Any, Both, any_closed, itself}

module _ {A B : Type 0} (f : A → B) where
  abbrev pub effect_of : Effect A → Effect B
  effect_of (next s) = next (denotes f s)
  effect_of (enter a s) = enter (f a) (denotes f s)
  effect_of (stop e) = stop e

  abbrev Stands : A → B → Type 0
  Stands a b = f a ≡ b

  with_itself : (s : Stack A) → Alikes Any Stands s (denotes f s)
  with_itself [] = none
  with_itself (Numeral k ∷ s) = more (numerals tt) (with_itself s)
  with_itself (Sequence a ∷ s) = more (sequences refl) (with_itself s)

  stands : {s : Stack A} {t : Stack B} → Alikes Any Stands s t → t ≡ denotes f s
  stands none = refl
  stands (more (numerals {k} p) h) = ap (λ (t : Stack B). Numeral k ∷ t) (stands h)
  stands (more {t} (sequences {a} {b} e) h) = ap (λ (c : B). Sequence c ∷ t) (sym e) ∙ ap (λ (t : Stack B). Sequence (f a) ∷ t) (stands h)

  alike : {n : ℕ} {x : Effect A} {y : Effect B} → Likes Any Stands 0 (λ (b : B). 0) n x y → y ≡ effect_of x
  alike (nexts h l) = ap next (stands h)
  alike (enters {a} {t} e h l) = ap (λ (b : B). enter b t) (sym e) ∙ ap (enter (f a)) (stands h)
  alike stops = refl

  pub act_denoted : (o : Name) (s : Stack A) → act o (denotes f s) ≡ effect_of (act o s)
  act_denoted o s = alike (acts Any Stands 0 (λ (b : B). 0) any_closed o (with_itself s))

  pub result_denoted : (s : Stack A) → result (denotes f s) ≡ result s
  result_denoted [] = refl
  result_denoted (Numeral k ∷ s) = refl
  result_denoted (Sequence a ∷ s) = refl

  pub numbers_denoted : (ks : List ℤ) → denotes f (numbers ks) ≡ numbers ks
  numbers_denoted [] = refl
  numbers_denoted (k ∷ ks) = ap (λ (t : Stack B). Numeral k ∷ t) (numbers_denoted ks)

-- a name leaves no more values than there were, and one less where it enters a sequence

module _ {A : Type 0} where
  abbrev Each : A → ℕ
  Each a = 1

  lengths : (s : Stack A) → weights 1 Each s ≡ length s
  lengths [] = refl
  lengths (Numeral k ∷ s) = omega (arith, lengths s)
  lengths (Sequence a ∷ s) = omega (arith, lengths s)

  -- at most n values are left
  abbrev pub Fewer : ℕ → Effect A → Type 0
  Fewer n (next s) = length s ≤ n
  Fewer n (enter a s) = suc (length s) ≤ n
  Fewer n (stop e) = Unit {0}

  fewer : {n m : ℕ} {x y : Effect A} → n ≡ m → Likes Any Both 1 Each n x y → Fewer m y
  fewer e (nexts {t} h l) = omega (arith, lengths t)
  fewer e (enters {t} r h l) = omega (arith, lengths t)
  fewer e stops = tt

  pub act_fewer : (o : Name) (s : Stack A) → Fewer (length s) (act o s)
  act_fewer o s = fewer (lengths s) (acts Any Both 1 Each any_closed o (itself s))
