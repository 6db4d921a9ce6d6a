-- What running answers, from what it found.
use Rattle.std.proofs.Common.{◌≡◌, ℕ, ◌<◌, ◌≤◌, Bool, ◌||◌, eqb, ltb, List, [], ◌∷◌, ◌++◌, length, ℤ, Ok, Err, append_assoc, length-append, sym, ap, ◌∙◌, arith}
use Rattle.std.proofs.lemmas.Bool.{cond-true, cond-false, eq-eqb, ne_eqb, le-ltb}
use Rattle.std.proofs.lemmas.List.{length-map, map-append}
use Rattle.codes.specs.declared.Refusal.TheVariants.{Space}
use Rattle.codes.specs.declared.Fault.TheVariants.{Arguments}
use Rattle.syntax.specs.Bounds.{working_places}
use Rattle.syntax.specs.Code.{Code, Source, source}
use Rattle.semantics.specs.declared.Value.{Value}
use Rattle.semantics.specs.declared.Value.TheVariants.{Numeral}
use Rattle.semantics.specs.declared.Run.{Run}
use Rattle.semantics.specs.Commands.{Stack}
use Rattle.semantics.specs.Meaning.{nothing, meaning, concluded, numbers, run}
use Rattle.interpreter.specs.Answering.{run_answer}

-- with places enough
answers : (values chains : ℕ) (p : Source) (ks : List ℤ) (r : Run) → working_places ≤ values → working_places ≤ chains → r ≡ run p ks → Ok r ≡ run_answer values chains p ks
answers values chains p ks r l m e =
    ap Ok e
    ∙ sym (cond-false (ltb values working_places || ltb chains working_places) (Err Space) (Ok (run p ks))
    (ap (λ (b : Bool). b || ltb chains working_places) (le-ltb values working_places l) ∙ le-ltb chains working_places m))

-- with another number of arguments
pub answers-wrong_count : (values chains n : ℕ) (c : Code) (ks : List ℤ) → working_places ≤ values → working_places ≤ chains → (length ks ≡ n → ⊥)
    → Ok (record { outcome = Err Arguments; spent = nothing }) ≡ run_answer values chains (source n c) ks
unfolding run
answers-wrong_count values chains n c ks l m d =
    answers values chains (source n c) ks (record { outcome = Err Arguments; spent = nothing }) l m
    (sym (cond-false (eqb (length ks) n) (concluded (meaning c (numbers ks))) (record { outcome = Err Arguments; spent = nothing }) (ne_eqb (length ks) n d)))

-- with as many as there should be
pub answers_course : (values chains n : ℕ) (c : Code) (ks : List ℤ) (r : Run) → working_places ≤ values → working_places ≤ chains → length ks ≡ n → r ≡ concluded (meaning c (numbers ks))
    → Ok r ≡ run_answer values chains (source n c) ks
unfolding run
answers_course values chains n c ks r l m e f =
    answers values chains (source n c) ks r l m
    (f ∙ sym (cond-true (eqb (length ks) n) (concluded (meaning c (numbers ks))) (record { outcome = Err Arguments; spent = nothing }) (eq-eqb (length ks) n e)))

-- arguments on the stack: those that are left, and behind them those that were pushed

abbrev pub pushed_after : List ℤ → Stack ℕ → Stack ℕ
pushed_after left s = numbers left ++ s

-- the last of those that are left is pushed
pub one_more_pushed : (left front : List ℤ) (k : ℤ) (s t all : Stack ℕ) → left ≡ front ++ k ∷ [] → t ≡ Numeral k ∷ s → pushed_after left s ≡ all → pushed_after front t ≡ all
one_more_pushed left front k s t all e more before =
    ap (λ (u : Stack ℕ). numbers front ++ u) more
    ∙ sym (append_assoc (numbers front) (Numeral k ∷ []) s)
    ∙ ap (λ (u : Stack ℕ). u ++ s) (sym (map-append Numeral front (k ∷ [])) ∙ ap numbers (sym e))
    ∙ before

-- as long as one is left there is room for it
pub room_for_one_more : (left front ks : List ℤ) (k : ℤ) (s : Stack ℕ) (room : ℕ) → left ≡ front ++ k ∷ [] → pushed_after left s ≡ numbers ks → length ks ≤ room → length s < room
room_for_one_more left front ks k s room e before l =
    let whole = ap length before in
    let one = ap length e in
    omega (arith, length-append (numbers left) s, length-append front (k ∷ []), length-map {B = Value ℕ} left Numeral, length-map {B = Value ℕ} ks Numeral)

-- none is left
pub all_pushed : (left : List ℤ) (s all : Stack ℕ) → length left ≡ 0 → pushed_after left s ≡ all → s ≡ all
all_pushed [] s all none before = before
all_pushed (k ∷ left) s all none before = let z : ⊥ = omega arith in absurd z
