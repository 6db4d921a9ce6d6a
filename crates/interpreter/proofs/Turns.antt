-- What each kind of turn does to what remains.
use Rattle.std.proofs.Common.{◌≡◌, ℕ, suc, ◌<◌, ◌≤◌, Bool, cond, ltb, List, [], ◌∷◌, length, ℤ, Some, None, Ok, Err, Result, sym, refl, ap, ◌∙◌, subst, arith}
use Rattle.std.proofs.lemmas.Bool.{cond-true, lt-ltb}
use Rattle.codes.specs.declared.Fault.{Fault}
use Rattle.syntax.specs.declared.Name.{Name}
use Rattle.syntax.specs.Code.{Code, end, numeral, name, sequence, append}
use Rattle.semantics.specs.declared.Value.TheVariants.{Numeral, Sequence}
use Rattle.semantics.specs.Commands.{Stack, Effect, next, enter, stop, act}
use Rattle.semantics.specs.Denoting.{denotes}
use Rattle.semantics.specs.Meaning.{one_step, spend, meaning}
use Rattle.semantics.proofs.Denoting.{effect_of, act_denoted, Fewer, act_fewer}
use Rattle.semantics.proofs.Meanings.{clauses, name-next, name-enter, name-stop}
use Rattle.operations.specs.Acting.{answer_of, left_by}
use Rattle.interpreter.specs.declared.turning.Turn.{Turn}
use Rattle.interpreter.specs.declared.turning.Turn.TheVariants.{Ran, Returned, Ended}
use Rattle.interpreter.specs.Turning.{chained, rest, Went}

module _ (f : ℕ → Code) (v : ℕ) (s : Stack ℕ) (vs : List ℕ) where
  -- at the end of a chain

  -- what is pushed

  pub went_by_numeral : (k : ℤ) (w : ℕ) (t : Stack ℕ) (ws : List ℕ) → f v ≡ numeral k (f w) → t ≡ Numeral k ∷ s → ws ≡ vs → Went f v s vs (Ok Ran) w t ws
  went_by_numeral k w t ws e more same = (
    ap (λ (q : Code). meaning (append q (chained f vs)) (denotes f s)) e
        ∙ clauses.numerals k (append (f w) (chained f vs)) (denotes f s)
        ∙ ap (λ (u : Stack ℕ). spend one_step (rest f w vs u)) (sym more)
        ∙ ap (λ (us : List ℕ). spend one_step (rest f w us t)) (sym same),
    (let n = ap length more in omega arith),
    (let n = ap length same in omega arith),
  )

  pub went_by_sequence : (a w : ℕ) (t : Stack ℕ) (ws : List ℕ) → f v ≡ sequence (f a) (f w) → t ≡ Sequence a ∷ s → ws ≡ vs → Went f v s vs (Ok Ran) w t ws
  went_by_sequence a w t ws e more same = (
    ap (λ (q : Code). meaning (append q (chained f vs)) (denotes f s)) e
        ∙ clauses.sequences (f a) (append (f w) (chained f vs)) (denotes f s)
        ∙ ap (λ (u : Stack ℕ). spend one_step (rest f w vs u)) (sym more)
        ∙ ap (λ (us : List ℕ). spend one_step (rest f w us t)) (sym same),
    (let n = ap length more in omega arith),
    (let n = ap length same in omega arith),
  )

  -- names, by what they answer

  on : (o : Name) (x : Effect ℕ) → act o s ≡ x → act o (denotes f s) ≡ effect_of f x
  on o x e = act_denoted f o s ∙ ap (effect_of f) e

  to_next : (x : Effect ℕ) → Ok None ≡ answer_of x → x ≡ next (left_by x s)
  to_next (next t) e = refl
  to_next (enter a t) e = cc
  to_next (stop g) e = cc

  to_enter : (x : Effect ℕ) (a : ℕ) → Ok (Some a) ≡ answer_of x → x ≡ enter a (left_by x s)
  to_enter (next t) a e = cc
  to_enter (enter b t) a e = let same : b ≡ a = cc in ap (λ (c : ℕ). enter c t) same
  to_enter (stop g) a e = cc

  to_stop : (x : Effect ℕ) (g : Fault) → Err g ≡ answer_of x → x ≡ stop g
  to_stop (next t) g e = cc
  to_stop (enter b t) g e = cc
  to_stop (stop h) g e = let same : h ≡ g = cc in ap stop same

  pub went_by_name : (o : Name) (w : ℕ) (t : Stack ℕ) (ws : List ℕ) → f v ≡ name o (f w) → Ok None ≡ answer_of (act o s) → t ≡ left_by (act o s) s → ws ≡ vs → Went f v s vs (Ok Ran) w t ws
  went_by_name o w t ws e answer left same =
      let x : act o s ≡ next t = to_next (act o s) answer ∙ ap next (sym left) in (
        ap (λ (q : Code). meaning (append q (chained f vs)) (denotes f s)) e
            ∙ name-next o (append (f w) (chained f vs)) (denotes f s) (denotes f t) (on o (next t) x)
            ∙ ap (λ (us : List ℕ). spend one_step (rest f w us t)) (sym same),
        (let n : length t ≤ length s = subst (Fewer (length s)) x (act_fewer o s) in omega arith),
        (let n = ap length same in omega arith),
      )

  pub went_inside : (o : Name) (a w : ℕ) (t : Stack ℕ) (ws : List ℕ) → f v ≡ name o (f w) → Ok (Some a) ≡ answer_of (act o s) → t ≡ left_by (act o s) s → ws ≡ w ∷ vs → Went f v s vs (Ok Ran) a t ws
  went_inside o a w t ws e answer left more =
      let x : act o s ≡ enter a t = to_enter (act o s) a answer ∙ ap (enter a) (sym left) in (
        ap (λ (q : Code). meaning (append q (chained f vs)) (denotes f s)) e
            ∙ name-enter o (f a) (append (f w) (chained f vs)) (denotes f s) (denotes f t) (on o (enter a t) x)
            ∙ ap (λ (us : List ℕ). spend one_step (rest f a us t)) (sym more),
        (let n : suc (length t) ≤ length s = subst (Fewer (length s)) x (act_fewer o s) in omega arith),
        (let n = ap length more in omega arith),
      )

  pub went_wrong : (o : Name) (u w : ℕ) (g : Fault) (t : Stack ℕ) (ws : List ℕ) (r : Result Turn Fault) → f v ≡ name o (f u) → Err g ≡ answer_of (act o s) → r ≡ Err g → Went f v s vs r w t ws
  went_wrong o u w g t ws r e answer wrong =
      let x : act o s ≡ stop g = to_stop (act o s) g answer in
      subst (λ (q : Result Turn Fault). Went f v s vs q w t ws) (sym wrong) (
      ap (λ (q : Code). meaning (append q (chained f vs)) (denotes f s)) e
      ∙ name-stop o (append (f u) (chained f vs)) (denotes f s) g (on o (stop g) x))

-- a push that finds room
pub grown : {X : Type 0} (r : Bool) (x : X) (old new : List X) (n room : ℕ) → r ≡ ltb n room → new ≡ cond r (x ∷ old) old → n < room → new ≡ x ∷ old
grown r x old new n room fits items l = items ∙ cond-true r (x ∷ old) old (fits ∙ lt-ltb n room l)
