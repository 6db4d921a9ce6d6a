-- The meaning has its clauses, nothing else has them, and its steps are bounded.
use Rattle.std.proofs.Common.{◌≡◌, ℕ, zero, suc, ◌+◌, ◌<◌, ◌≤◌, [], ◌∷◌, sym, refl, ap, ◌∙◌, subst, arith}
use Rattle.codes.specs.declared.Fault.{Fault}
use Rattle.syntax.specs.declared.Name.{Name}
use Rattle.syntax.specs.declared.Name.TheVariants.{Exec}
use Rattle.syntax.specs.Code.{Code, end, numeral, name, sequence, append, commands}
use Rattle.semantics.specs.declared.Value.TheVariants.{Numeral, Sequence}
use Rattle.semantics.specs.declared.Spent.{Spent}
use Rattle.semantics.specs.Commands.{Stack, Effect, next, enter, stop, act}
use Rattle.semantics.specs.Meaning.{Course, done, stopped, nothing, one_step, spend, then, Meaning, carried, named, pushed, price, valued, within, stacked, meaning}
use Rattle.semantics.specs.Laws.{Valuation, OneValuation, Compositional, ExecRunsContents}
use Rattle.semantics.proofs.Acts.{weights, Likes, nexts, enters, stops, acts, Any, Both, any_closed, itself}
use Rattle.semantics.proofs.Courses.{plus-nothing, spend-spend, spend-then, then_same, valued-append}

-- 1. a name leaves no more commands on the stack than there were

stacked_weights : (s : Stack Code) → stacked s ≡ weights 0 commands s
stacked_weights [] = refl
stacked_weights (Numeral k ∷ s) = omega (arith, stacked_weights s)
stacked_weights (Sequence b ∷ s) = ap (λ (n : ℕ). commands b + n) (stacked_weights s)

-- what an effect leaves on the stack and in the sequence that it enters
pub data Light (n : ℕ) : Effect Code → Type 0 where
  light_next : {s : Stack Code} → stacked s ≤ n → Light n (next s)
  light_enter : {b : Code} {s : Stack Code} → commands b + stacked s ≤ n → Light n (enter b s)
  light_stop : {f : Fault} → Light n (stop f)

lights : {n : ℕ} {x y : Effect Code} → Likes Any Both 0 commands n x y → Light n y
lights (nexts {t} h l) = light_next (omega (arith, stacked_weights t))
lights (enters {t} r h l) = light_enter (omega (arith, stacked_weights t))
lights stops = light_stop

pub light : (o : Name) (s : Stack Code) → Light (stacked s) (act o s)
light o s = subst (λ (n : ℕ). Light n (act o s)) (sym (stacked_weights s)) (lights (acts Any Both 0 commands any_closed o (itself s)))

-- 2. two courses are the same, and the steps and what is left on the stack come to at most k

pub data Agree (k : ℕ) : Course → Course → Type 0 where
  same_end : {s : Stack Code} {x : Spent} → x.steps + stacked s ≤ k → Agree k (done s x) (done s x)
  same_stop : {f : Fault} {x : Spent} → x.steps ≤ k → Agree k (stopped f x) (stopped f x)

pub same : {k : ℕ} {c d : Course} → Agree k c d → c ≡ d
same (same_end h) = refl
same (same_stop h) = refl

looser : {k j : ℕ} {c d : Course} → Agree k c d → k ≤ j → Agree j c d
looser (same_end h) l = same_end (omega arith)
looser (same_stop h) l = same_stop (omega arith)

after_spending : {k : ℕ} {c d : Course} (x : Spent) → Agree k c d → Agree (x.steps + k) (spend x c) (spend x d)
after_spending x (same_end h) = same_end (omega arith)
after_spending x (same_stop h) = same_stop (omega arith)

then-agree : {k : ℕ} {c d : Course} (j : ℕ) {f g : Stack Code → Course} → Agree k c d → ((t : Stack Code) → stacked t ≤ k → Agree (j + stacked t) (f t) (g t)) → Agree (j + k) (then c f) (then d g)
then-agree j (same_end {s} {x} h) e = looser (after_spending x (e s (omega arith))) (omega arith)
then-agree j (same_stop h) e = same_stop (omega arith)

module _ (m n : Meaning) (k : ℕ) (hyp : (b : Code) (t : Stack Code) → commands b + stacked t < k → Agree (commands b + stacked t) (m b t) (n b t)) where
  effect_agree : {w : ℕ} {x : Effect Code} → Light w x → w < k → Agree w (carried m x) (carried n x)
  effect_agree (light_next h) l = same_end (omega arith)
  effect_agree (light_enter {b} {s} h) l = looser (hyp b s (omega arith)) h
  effect_agree light_stop l = same_stop (omega arith)

  pub valued_agree : (q : Code) (s : Stack Code) → commands q + stacked s ≤ k → Agree (commands q + stacked s) (valued m q s) (valued n q s)
  valued_agree end s l = same_end (omega arith)
  valued_agree (numeral a q) s l = looser (after_spending one_step (valued_agree q (Numeral a ∷ s) (omega arith))) (omega arith)
  valued_agree (sequence b q) s l = looser (after_spending one_step (valued_agree q (Sequence b ∷ s) (omega arith))) (omega arith)
  valued_agree (name o q) s l =
      looser (then-agree (commands q) (after_spending one_step (effect_agree (light o s) (omega arith))) (λ t h. valued_agree q t (omega arith))) (omega arith)

-- 3. as much as is needed is enough

pub enough : (n j : ℕ) (q : Code) (s : Stack Code) → commands q + stacked s ≤ n → commands q + stacked s ≤ j → Agree (commands q + stacked s) (within n q s) (within j q s)
enough zero zero q s h l = same_end (omega arith)
enough zero (suc j) end s h l = same_end (omega arith)
enough zero (suc j) (numeral k q) s h l = let z : ⊥ = omega arith in absurd z
enough zero (suc j) (name o q) s h l = let z : ⊥ = omega arith in absurd z
enough zero (suc j) (sequence b q) s h l = let z : ⊥ = omega arith in absurd z
enough (suc n) zero end s h l = same_end (omega arith)
enough (suc n) zero (numeral k q) s h l = let z : ⊥ = omega arith in absurd z
enough (suc n) zero (name o q) s h l = let z : ⊥ = omega arith in absurd z
enough (suc n) zero (sequence b q) s h l = let z : ⊥ = omega arith in absurd z
enough (suc n) (suc j) q s h l = valued_agree (within n) (within j) (commands q + stacked s) (λ b t i. enough n j b t (omega arith) (omega arith)) q s (omega arith)

fixed : (n : ℕ) (q : Code) (s : Stack Code) → commands q + stacked s ≤ n → within n q s ≡ valued meaning q s
unfolding meaning
fixed zero end s h = refl
fixed zero (numeral k q) s h = let z : ⊥ = omega arith in absurd z
fixed zero (name o q) s h = let z : ⊥ = omega arith in absurd z
fixed zero (sequence b q) s h = let z : ⊥ = omega arith in absurd z
fixed (suc n) q s h = same (valued_agree (within n) meaning (commands q + stacked s) (λ b t i. enough n (commands b + stacked t) b t (omega arith) (omega arith)) q s (omega arith))

pub meaning-valued : (q : Code) (s : Stack Code) → meaning q s ≡ valued meaning q s
unfolding meaning
meaning-valued q s = fixed (commands q + stacked s) q s (omega arith)

-- steps and what is left on the stack
pub bounded : (q : Code) (s : Stack Code) → Agree (commands q + stacked s) (meaning q s) (meaning q s)
unfolding meaning
bounded q s = enough (commands q + stacked s) (commands q + stacked s) q s (omega arith) (omega arith)

-- 4. the clauses

then-meaning : (c : Course) (q : Code) → then c (valued meaning q) ≡ then c (meaning q)
then-meaning c q = then_same c (valued meaning q) (meaning q) (λ s. sym (meaning-valued q s))

pub clauses : Valuation meaning
clauses = record {
  ends = λ s. meaning-valued end s;
  numerals = λ k q s. meaning-valued (numeral k q) s ∙ then-meaning (pushed (Numeral k) s) q;
  sequences = λ b q s. meaning-valued (sequence b q) s ∙ then-meaning (pushed (Sequence b) s) q;
  names = λ o q s. meaning-valued (name o q) s ∙ then-meaning (named meaning o s) q;
}

by_clauses : (m : Meaning) → Valuation m → (q : Code) (s : Stack Code) → m q s ≡ valued m q s
by_clauses m v end s = v.ends s
by_clauses m v (numeral k q) s = v.numerals k q s ∙ then_same (pushed (Numeral k) s) (m q) (valued m q) (by_clauses m v q)
by_clauses m v (sequence b q) s = v.sequences b q s ∙ then_same (pushed (Sequence b) s) (m q) (valued m q) (by_clauses m v q)
by_clauses m v (name o q) s = v.names o q s ∙ then_same (named m o s) (m q) (valued m q) (by_clauses m v q)

any_valuation : (m : Meaning) → Valuation m → (n : ℕ) (q : Code) (s : Stack Code) → commands q + stacked s ≤ n → Agree (commands q + stacked s) (m q s) (within n q s)
any_valuation m v zero end s h = subst (λ (c : Course). Agree (commands end + stacked s) c (done s nothing)) (sym (v.ends s)) (same_end (omega arith))
any_valuation m v zero (numeral k q) s h = let z : ⊥ = omega arith in absurd z
any_valuation m v zero (name o q) s h = let z : ⊥ = omega arith in absurd z
any_valuation m v zero (sequence b q) s h = let z : ⊥ = omega arith in absurd z
any_valuation m v (suc n) q s h =
    subst (λ (c : Course). Agree (commands q + stacked s) c (within (suc n) q s)) (sym (by_clauses m v q s))
    (valued_agree m (within n) (commands q + stacked s) (λ b t i. any_valuation m v n b t (omega arith)) q s (omega arith))

pub one_valuation : OneValuation
unfolding meaning
one_valuation = record { clauses = clauses; only = λ m v q s. same (any_valuation m v (commands q + stacked s) q s (omega arith)) }

-- 5. chains that are cut, and names by their effect

pub compositional : Compositional
compositional p q s =
    meaning-valued (append p q) s
    ∙ valued-append meaning p q s
    ∙ ap (λ (c : Course). then c (valued meaning q)) (sym (meaning-valued p s))
    ∙ then-meaning (meaning p s) q

pub name-next : (o : Name) (q : Code) (s t : Stack Code) → act o s ≡ next t → meaning (name o q) s ≡ spend (price o s) (meaning q t)
name-next o q s t e =
    clauses.names o q s
    ∙ ap (λ (x : Effect Code). then (spend (price o s) (carried meaning x)) (meaning q)) e
    ∙ ap (λ (x : Spent). spend x (meaning q t)) (plus-nothing (price o s))

pub name-enter : (o : Name) (b q : Code) (s t : Stack Code) → act o s ≡ enter b t → meaning (name o q) s ≡ spend (price o s) (meaning (append b q) t)
name-enter o b q s t e =
    clauses.names o q s
    ∙ ap (λ (x : Effect Code). then (spend (price o s) (carried meaning x)) (meaning q)) e
    ∙ spend-then (price o s) (meaning b t) (meaning q)
    ∙ ap (spend (price o s)) (sym (compositional b q t))

pub name-stop : (o : Name) (q : Code) (s : Stack Code) (f : Fault) → act o s ≡ stop f → meaning (name o q) s ≡ stopped f (price o s)
name-stop o q s f e =
    clauses.names o q s
    ∙ ap (λ (x : Effect Code). then (spend (price o s) (carried meaning x)) (meaning q)) e
    ∙ ap (stopped f) (plus-nothing (price o s))

pub exec_runs_contents : ExecRunsContents
exec_runs_contents b q s =
    clauses.sequences b (name Exec q) s
    ∙ ap (spend one_step) (name-enter Exec b q (Sequence b ∷ s) s refl)
    ∙ spend-spend one_step one_step (meaning (append b q) s)
