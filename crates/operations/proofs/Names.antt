-- What names come to on a stack that was looked at.
use Rattle.std.proofs.Common.{◌≡◌, ℕ, ◌<◌, Bool, eqb, List, ◌∷◌, length, ℤ, pos, negsuc, nat_abs, Some, None, Ok, sym, ap, ◌∙◌, arith, slice_get}
use Rattle.std.proofs.lemmas.Bool.{cond-true, cond-false, eq-eqb, ne_eqb}
use Rattle.stack.specs.declared.Stack.{Stack}
use Rattle.stack.specs.Held.{held, room}
use Rattle.stack.specs.Items.{tail_of}
use Rattle.syntax.specs.declared.Operator.{Operator}
use Rattle.syntax.specs.declared.Name.{Name}
use Rattle.syntax.specs.declared.Name.TheVariants.{Operator as operator, Nget, Sel, Swap}
use Rattle.semantics.specs.declared.Value.{Value}
use Rattle.semantics.specs.declared.Value.TheVariants.{Numeral, Sequence}
use Rattle.semantics.specs.Commands.{next, act, compute, settle, operate, select, chosen, counted, copy, fetch}
use Rattle.operations.specs.Acting.{Applied, answer_of, left_by, number_in}
use Rattle.operations.proofs.Stacks.{Pushed, one_of, two_of, three_of, pushes}

-- a name whose last move is a push onto fewer values than there were
pub puts : (n : Name) (s p t : Stack (Value ℕ)) (x : Value ℕ) (xs : List (Value ℕ)) (b : Bool) → act n (held s) ≡ next (x ∷ xs) → held p ≡ xs → length xs < length (held s) → room p ≡ room s → p.places.ghost_name ≡ s.places.ghost_name → Pushed p t x b → Applied n s t (Ok None)
puts n s p t x xs b e rest less size same push =
    let short = ap length rest in
    let top = pushes s p t x b (omega arith) size push ∙ ap (λ (l : List (Value ℕ)). x ∷ l) rest in
    record { answer = sym (ap answer_of e); values = top ∙ sym (ap (λ f. left_by f (held s)) e); size = push.size ∙ size; same = push.same ∙ same }

-- a value that has a number is that numeral
numeral_of : (v : Value ℕ) (k : ℤ) → number_in v ≡ Ok k → v ≡ Numeral k
numeral_of (Numeral j) k p = cc
numeral_of (Sequence q) k p = let z : ◌≡◌ {A = ℕ} 0 1 = cc in absurd (omega arith)

-- a number of no size is 0
zero_of : (k : ℤ) → nat_abs k ≡ 0 → k ≡ pos 0
zero_of (pos n) e = ap pos e
zero_of (negsuc n) e = let z : ⊥ = omega arith in absurd z

-- an operator on two numerals
pub operated : (o : Operator) (xs : List (Value ℕ)) (v w : Value ℕ) (a b k : ℤ) → slice_get xs 0 ≡ Some v → slice_get xs 1 ≡ Some w → number_in v ≡ Ok b → number_in w ≡ Ok a → compute o a b ≡ Ok k → act (operator o) xs ≡ next (Numeral k ∷ tail_of (tail_of xs))
operated o xs v w a b k first second right left e =
    ap (act (operator o)) (two_of xs v w first second)
    ∙ (λ i. operate o (numeral_of v b right i) (numeral_of w a left i) (tail_of (tail_of xs)))
    ∙ ap (λ r. settle r (tail_of (tail_of xs))) e

-- two values that change places
pub swapped : (xs : List (Value ℕ)) (v w : Value ℕ) → slice_get xs 0 ≡ Some v → slice_get xs 1 ≡ Some w → act Swap xs ≡ next (w ∷ v ∷ tail_of (tail_of xs))
swapped xs v w first second = ap (act Swap) (two_of xs v w first second)

-- the third value is 0
pub chosen_first : (k : ℤ) (v w : Value ℕ) → k ≡ pos 0 → chosen k v w ≡ v
chosen_first k v w e = cond-true (eqb (nat_abs k) 0) v w (eq-eqb (nat_abs k) 0 (ap nat_abs e))

-- the third value is another number
pub chosen_second : (k : ℤ) (v w : Value ℕ) → (k ≡ pos 0 → ⊥) → chosen k v w ≡ w
chosen_second k v w n = cond-false (eqb (nat_abs k) 0) v w (ne_eqb (nat_abs k) 0 (λ e. n (zero_of k e)))

-- three values, the third a numeral
pub selected : (xs : List (Value ℕ)) (v w x : Value ℕ) (k : ℤ) → slice_get xs 0 ≡ Some v → slice_get xs 1 ≡ Some w → slice_get xs 2 ≡ Some x → number_in x ≡ Ok k → act Sel xs ≡ next (chosen k v w ∷ tail_of (tail_of (tail_of xs)))
selected xs v w x k first second third condition =
    ap (act Sel) (three_of xs v w x first second third) ∙ ap (λ y. select v w y (tail_of (tail_of (tail_of xs)))) (numeral_of x k condition)

-- an index that counts to a numeral
pub copied : (xs : List (Value ℕ)) (v w : Value ℕ) (i k : ℤ) → slice_get xs 0 ≡ Some v → number_in v ≡ Ok i → counted (tail_of xs) i ≡ Some w → number_in w ≡ Ok k → act Nget xs ≡ next (Numeral k ∷ tail_of xs)
copied xs v w i k first index found number =
    ap (act Nget) (one_of xs v first) ∙ ap (λ y. fetch y (tail_of xs)) (numeral_of v i index) ∙ ap (λ y. copy y (tail_of xs)) (found ∙ ap Some (numeral_of w k number))
