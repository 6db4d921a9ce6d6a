-- A name does the same to stacks that differ only in what stands for their sequences; and what it leaves weighs no more than
-- what was there.
use Rattle.std.proofs.Common.{◌≡◌, ℕ, zero, suc, ◌+◌, ◌≤◌, Bool, true, false, cond, eqb, [], ◌∷◌, ℤ, pos, negsuc, nat_abs, Some, None, Ok, Err, Option, Result, refl, arith, slice_get}
use Rattle.codes.specs.declared.Fault.{Fault}
use Rattle.syntax.specs.declared.Operator.{Operator}
use Rattle.syntax.specs.declared.Name.{Name}
use Rattle.syntax.specs.declared.Name.TheVariants.{Operator as operator, Exec, Nget, Pop, Sel, Swap}
use Rattle.semantics.specs.declared.Value.{Value}
use Rattle.semantics.specs.declared.Value.TheVariants.{Numeral, Sequence}
use Rattle.semantics.specs.Commands.{Stack, Effect, next, enter, stop, compute, settle, operate, select, counted, copy, fetch, execute, act}
use Rattle.semantics.proofs.Alike.{Alike, numerals, sequences, Alikes, none, more}

-- what a value weighs: a numeral ν, a sequence what μ says
abbrev pub weight : {A : Type 0} → ℕ → (A → ℕ) → Value A → ℕ
weight ν μ (Numeral k) = ν
weight ν μ (Sequence a) = μ a

abbrev pub weights : {A : Type 0} → ℕ → (A → ℕ) → Stack A → ℕ
weights ν μ [] = 0
weights ν μ (v ∷ s) = weight ν μ v + weights ν μ s

-- what an operator gives of numbers with a property has it too
abbrev pub Closed : (ℤ → Type 0) → Type 0
Closed P = (o : Operator) (a b k : ℤ) → P a → P b → compute o a b ≡ Ok k → P k

-- effects that are alike, and the second leaves at most so much
pub data Likes {A B : Type 0} (P : ℤ → Type 0) (R : A → B → Type 0) (ν : ℕ) (μ : B → ℕ) (n : ℕ) : Effect A → Effect B → Type 0 where
  nexts : {s : Stack A} {t : Stack B} → Alikes P R s t → weights ν μ t ≤ n → Likes P R ν μ n (next s) (next t)
  enters : {a : A} {b : B} {s : Stack A} {t : Stack B} → R a b → Alikes P R s t → μ b + weights ν μ t ≤ n → Likes P R ν μ n (enter a s) (enter b t)
  stops : {f : Fault} → Likes P R ν μ n (stop f) (stop f)

module _ {A B : Type 0} (P : ℤ → Type 0) (R : A → B → Type 0) (ν : ℕ) (μ : B → ℕ) (closed : Closed P) where
  data Found : Option (Value A) → Option (Value B) → Type 0 where
    nowhere : Found None None
    there : {v : Value A} {w : Value B} → Alike P R v w → Found (Some v) (Some w)

  settles : (n : ℕ) (x : Result ℤ Fault) (s : Stack A) (t : Stack B) → ((k : ℤ) → x ≡ Ok k → P k) → Alikes P R s t → ν + weights ν μ t ≤ n → Likes P R ν μ n (settle x s) (settle x t)
  settles n (Ok k) s t p h l = nexts (more (numerals (p k refl)) h) l
  settles n (Err f) s t p h l = stops

  operates : (n : ℕ) (o : Operator) (v w : Value A) (v' w' : Value B) (s : Stack A) (t : Stack B) → Alike P R v v' → Alike P R w w' → Alikes P R s t
      → weight ν μ v' + (weight ν μ w' + weights ν μ t) ≤ n → Likes P R ν μ n (operate o v w s) (operate o v' w' t)
  operates n o v w v' w' s t (numerals {k = b} p) (numerals {k = a} q) h l = settles n (compute o a b) s t (λ k e. closed o a b k q p e) h (omega arith)
  operates n o v w v' w' s t (numerals p) (sequences q) h l = stops
  operates n o v w v' w' s t (sequences p) (numerals q) h l = stops
  operates n o v w v' w' s t (sequences p) (sequences q) h l = stops

  choice : (n : ℕ) (b : Bool) (v w : Value A) (v' w' : Value B) (s : Stack A) (t : Stack B) → Alike P R v v' → Alike P R w w' → Alikes P R s t
      → weight ν μ v' + (weight ν μ w' + weights ν μ t) ≤ n → Likes P R ν μ n (next (cond b v w ∷ s)) (next (cond b v' w' ∷ t))
  choice n true v w v' w' s t x y h l = nexts (more x h) (omega arith)
  choice n false v w v' w' s t x y h l = nexts (more y h) (omega arith)

  selects : (n : ℕ) (v w x : Value A) (v' w' x' : Value B) (s : Stack A) (t : Stack B) → Alike P R v v' → Alike P R w w' → Alike P R x x' → Alikes P R s t
      → weight ν μ v' + (weight ν μ w' + weights ν μ t) ≤ n → Likes P R ν μ n (select v w x s) (select v' w' x' t)
  selects n v w x v' w' x' s t a b (numerals {k} p) h l = choice n (eqb (nat_abs k) 0) v w v' w' s t a b h l
  selects n v w x v' w' x' s t a b (sequences q) h l = stops

  finds : {s : Stack A} {t : Stack B} → Alikes P R s t → (i : ℕ) → Found (slice_get s i) (slice_get t i)
  finds none i = nowhere
  finds (more v h) zero = there v
  finds (more v h) (suc i) = finds h i

  counts : {s : Stack A} {t : Stack B} → Alikes P R s t → (k : ℤ) → Found (counted s k) (counted t k)
  counts h (pos zero) = nowhere
  counts h (pos (suc n)) = finds h n
  counts h (negsuc n) = nowhere

  copies : (n : ℕ) {x : Option (Value A)} {y : Option (Value B)} (s : Stack A) (t : Stack B) → Found x y → Alikes P R s t → ν + weights ν μ t ≤ n → Likes P R ν μ n (copy x s) (copy y t)
  copies n s t nowhere h l = stops
  copies n s t (there (numerals p)) h l = nexts (more (numerals p) h) l
  copies n s t (there (sequences q)) h l = stops

  fetches : (n : ℕ) {v : Value A} {w : Value B} (s : Stack A) (t : Stack B) → Alike P R v w → Alikes P R s t → weight ν μ w + weights ν μ t ≤ n → Likes P R ν μ n (fetch v s) (fetch w t)
  fetches n s t (numerals {k} p) h l = copies n s t (counts h k) h l
  fetches n s t (sequences q) h l = stops

  executes : (n : ℕ) {v : Value A} {w : Value B} (s : Stack A) (t : Stack B) → Alike P R v w → Alikes P R s t → weight ν μ w + weights ν μ t ≤ n → Likes P R ν μ n (execute v s) (execute w t)
  executes n s t (numerals p) h l = stops
  executes n s t (sequences q) h l = enters q h l

  pub acts : (o : Name) {s : Stack A} {t : Stack B} → Alikes P R s t → Likes P R ν μ (weights ν μ t) (act o s) (act o t)
  acts (operator o) none = stops
  acts (operator o) (more v none) = stops
  acts (operator o) (more v (more w h)) = operates _ o _ _ _ _ _ _ v w h (omega arith)
  acts Pop none = stops
  acts Pop (more v h) = nexts h (omega arith)
  acts Swap none = stops
  acts Swap (more v none) = stops
  acts Swap (more v (more w h)) = nexts (more w (more v h)) (omega arith)
  acts Sel none = stops
  acts Sel (more v none) = stops
  acts Sel (more v (more w none)) = stops
  acts Sel (more v (more w (more x h))) = selects _ _ _ _ _ _ _ _ _ v w x h (omega arith)
  acts Nget none = stops
  acts Nget (more v h) = fetches _ _ _ v h (omega arith)
  acts Exec none = stops
  acts Exec (more v h) = executes _ _ _ v h (omega arith)

-- where nothing is asked of numbers and of sequences, every stack is like itself

abbrev pub Any : ℤ → Type 0
Any k = Unit {0}

abbrev pub Both : {A : Type 0} → A → A → Type 0
Both a b = Unit {0}

pub any_closed : Closed Any
any_closed o a b k x y e = tt

pub itself : {A : Type 0} (s : Stack A) → Alikes Any Both s s
itself [] = none
itself (Numeral k ∷ s) = more (numerals tt) (itself s)
itself (Sequence a ∷ s) = more (sequences tt) (itself s)
