-- How courses are put together.
use Rattle.std.proofs.Common.{◌≡◌, ℕ, ◌+◌, sym, refl, ap, ◌∙◌, arith}
use Rattle.syntax.specs.Code.{Code, end, numeral, name, sequence, append}
use Rattle.semantics.specs.declared.Spent.{Spent}
use Rattle.semantics.specs.Commands.{Stack}
use Rattle.semantics.specs.Meaning.{Course, done, stopped, nothing, one_step, plus, spend, then, Meaning, named, valued}

pub plus_assoc : (x y z : Spent) → plus (plus x y) z ≡ plus x (plus y z)
plus_assoc x y z = let e : x.steps + y.steps + z.steps ≡ x.steps + (y.steps + z.steps) = omega arith in ap (λ (n : ℕ). record { steps = n }) e

pub plus-nothing : (x : Spent) → plus x nothing ≡ x
plus-nothing x = let e : x.steps + 0 ≡ x.steps = omega arith in ap (λ (n : ℕ). record { steps = n }) e

pub nothing-plus : (x : Spent) → plus nothing x ≡ x
nothing-plus x = let e : 0 + x.steps ≡ x.steps = omega arith in ap (λ (n : ℕ). record { steps = n }) e

pub spend-nothing : (c : Course) → spend nothing c ≡ c
spend-nothing (done s x) = ap (done s) (nothing-plus x)
spend-nothing (stopped f x) = ap (stopped f) (nothing-plus x)

pub spend-spend : (x y : Spent) (c : Course) → spend x (spend y c) ≡ spend (plus x y) c
spend-spend x y (done s z) = ap (done s) (sym (plus_assoc x y z))
spend-spend x y (stopped f z) = ap (stopped f) (sym (plus_assoc x y z))

pub spend-then : (x : Spent) (c : Course) (f : Stack Code → Course) → then (spend x c) f ≡ spend x (then c f)
spend-then x (done s y) f = sym (spend-spend x y (f s))
spend-then x (stopped e y) f = refl

pub then_same : (c : Course) (f g : Stack Code → Course) → ((s : Stack Code) → f s ≡ g s) → then c f ≡ then c g
then_same (done s x) f g e = ap (spend x) (e s)
then_same (stopped h x) f g e = refl

pub then-then : (c : Course) (f g : Stack Code → Course) → then (then c f) g ≡ then c (λ s. then (f s) g)
then-then (done s x) f g = spend-then x (f s) g
then-then (stopped e x) f g = refl

-- for any meaning of sequences, a chain that is cut somewhere
pub valued-append : (m : Meaning) (p q : Code) (s : Stack Code) → valued m (append p q) s ≡ then (valued m p s) (valued m q)
valued-append m end q s = sym (spend-nothing (valued m q s))
valued-append m (numeral k p) q s = ap (spend one_step) (valued-append m p q _) ∙ sym (spend-then one_step (valued m p _) (valued m q))
valued-append m (sequence b p) q s = ap (spend one_step) (valued-append m p q _) ∙ sym (spend-then one_step (valued m p _) (valued m q))
valued-append m (name o p) q s =
    then_same (named m o s) (valued m (append p q)) (λ t. then (valued m p t) (valued m q)) (valued-append m p q)
    ∙ sym (then-then (named m o s) (valued m p) (valued m q))
