-- Every run ends as the meaning says.
use Rattle.std.proofs.Common.{◌≡◌, ℕ, zero, suc, ◌+◌, ◌≤◌, eqb, List, [], ◌∷◌, length, ℤ, Err, sym, refl, ap, ◌∙◌, subst, arith}
use Rattle.std.proofs.lemmas.Bool.{cond_both, cond-true, cond-false, eqb-true, eqb-false, eq-eqb, ne_eqb}
use Rattle.codes.specs.declared.Fault.TheVariants.{Arguments}
use Rattle.syntax.specs.declared.Name.{Name}
use Rattle.syntax.specs.Code.{Code, end, numeral, name, sequence, append, commands, Source, source, code_of}
use Rattle.syntax.proofs.Growing.{commands-append}
use Rattle.semantics.specs.declared.Value.TheVariants.{Numeral, Sequence}
use Rattle.semantics.specs.declared.Spent.{Spent}
use Rattle.semantics.specs.declared.Run.{Run}
use Rattle.semantics.specs.Commands.{Stack, Effect, next, enter, stop, act}
use Rattle.semantics.specs.Meaning.{Course, done, stopped, nothing, one_step, spend, price, stacked, meaning, concluded, numbers, run}
use Rattle.semantics.specs.Running.{Runs, ends, pushes_numeral, pushes_sequence, goes_on, enters, stops, Ends, wrong_count, number, empty, sequence_on_top, faulted}
use Rattle.semantics.specs.Laws.{EveryRunEnds, StepsWithinCommands, spent_of}
use Rattle.semantics.proofs.Meanings.{Light, light_next, light_enter, light_stop, light, Agree, same_end, same_stop, bounded, clauses, name-next, name-enter, name-stop}

like : (q : Code) (s : Stack Code) (c d : Course) → d ≡ c → Runs q s c → Runs q s d
like q s c d e r = subst (Runs q s) (sym e) r

-- with n commands at most to run after a name
by_effect : (n : ℕ) → ((q : Code) (t : Stack Code) → commands q + stacked t ≤ n → Runs q t (meaning q t)) → (o : Name) (q : Code) (s : Stack Code) (x : Effect Code) → commands q + stacked s ≤ n → Light (stacked s) x → act o s ≡ x → Runs (name o q) s (meaning (name o q) s)
by_effect n go o q s (next t) h (light_next l) e = like (name o q) s _ _ (name-next o q s t e) (goes_on e (go q t (omega arith)))
by_effect n go o q s (enter b t) h (light_enter l) e = like (name o q) s _ _ (name-enter o b q s t e) (enters e (go (append b q) t (omega (arith, commands-append b q))))
by_effect n go o q s (stop f) h light_stop e = like (name o q) s _ _ (name-stop o q s f e) (stops e)

-- with n at most in all
ending : (n : ℕ) (q : Code) (s : Stack Code) → commands q + stacked s ≤ n → Runs q s (meaning q s)
ending n end s h = like end s (done s nothing) (meaning end s) (clauses.ends s) ends
ending zero (numeral k q) s h = let z : ⊥ = omega arith in absurd z
ending zero (sequence b q) s h = let z : ⊥ = omega arith in absurd z
ending zero (name o q) s h = let z : ⊥ = omega arith in absurd z
ending (suc n) (numeral k q) s h = like (numeral k q) s _ _ (clauses.numerals k q s) (pushes_numeral (ending n q (Numeral k ∷ s) (omega arith)))
ending (suc n) (sequence b q) s h = like (sequence b q) s _ _ (clauses.sequences b q s) (pushes_sequence (ending n q (Sequence b ∷ s) (omega arith)))
ending (suc n) (name o q) s h = by_effect n (ending n) o q s (act o s) (omega arith) (light o s) refl

only : (q : Code) (s : Stack Code) (c : Course) → Runs q s c → c ≡ meaning q s
only q s c (ends) = sym (clauses.ends s)
only q s c (pushes_numeral {k} {q = p} {c = d} r) = ap (spend one_step) (only p (Numeral k ∷ s) d r) ∙ sym (clauses.numerals k p s)
only q s c (pushes_sequence {b} {q = p} {c = d} r) = ap (spend one_step) (only p (Sequence b ∷ s) d r) ∙ sym (clauses.sequences b p s)
only q s c (goes_on {o} {q = p} {t} {c = d} e r) = ap (spend (price o s)) (only p t d r) ∙ sym (name-next o p s t e)
only q s c (enters {o} {b} {q = p} {t} {c = d} e r) = ap (spend (price o s)) (only (append b p) t d r) ∙ sym (name-enter o b p s t e)
only q s c (stops {o} {q = p} {f} e) = sym (name-stop o p s f e)

-- programs

abbrev refused : Run
refused = record { outcome = Err Arguments; spent = nothing }

by_course : (n : ℕ) (c : Code) (ks : List ℤ) (x : Course) → length ks ≡ n → Runs c (numbers ks) x → Ends (source n c) ks (concluded x)
by_course n c ks (done [] x) e r = empty e r
by_course n c ks (done (Numeral k ∷ s) x) e r = number e r
by_course n c ks (done (Sequence b ∷ s) x) e r = sequence_on_top e r
by_course n c ks (stopped f x) e r = faulted e r

ending-program : (p : Source) (ks : List ℤ) → Ends p ks (run p ks)
unfolding run
ending-program (source n c) ks =
    cond_both (eqb (length ks) n) (concluded (meaning c (numbers ks))) refused (Ends (source n c) ks)
    (λ e. by_course n c ks (meaning c (numbers ks)) (eqb-true (length ks) n e) (ending (commands c + stacked (numbers ks)) c (numbers ks) (omega arith)))
    (λ e. wrong_count (eqb-false (length ks) n e))

counted : (n : ℕ) (c : Code) (ks : List ℤ) (x : Course) → length ks ≡ n → Runs c (numbers ks) x → concluded x ≡ run (source n c) ks
unfolding run
counted n c ks x e r =
    ap concluded (only c (numbers ks) x r)
    ∙ sym (cond-true (eqb (length ks) n) (concluded (meaning c (numbers ks))) refused (eq-eqb (length ks) n e))

only-program : (p : Source) (ks : List ℤ) (r : Run) → Ends p ks r → r ≡ run p ks
unfolding run
only-program p ks r (wrong_count {n} {c} d) = sym (cond-false (eqb (length ks) n) (concluded (meaning c (numbers ks))) refused (ne_eqb (length ks) n d))
only-program p ks r (number {n} {c} {k} {s} {x} e h) = counted n c ks (done (Numeral k ∷ s) x) e h
only-program p ks r (empty {n} {c} {x} e h) = counted n c ks (done [] x) e h
only-program p ks r (sequence_on_top {n} {c} {b} {s} {x} e h) = counted n c ks (done (Sequence b ∷ s) x) e h
only-program p ks r (faulted {n} {c} {f} {x} e h) = counted n c ks (stopped f x) e h

pub every_run_ends_lem : EveryRunEnds
every_run_ends_lem = record {
  chains = λ q s. ending (commands q + stacked s) q s (omega arith);
  chains_only = only;
  programs = ending-program;
  programs_only = only-program;
}

-- steps

few : {k : ℕ} {c d : Course} → Agree k c d → (spent_of d).steps ≤ k
few (same_end h) = omega arith
few (same_stop h) = h

pub numbers_hold_none : (ks : List ℤ) → stacked (numbers ks) ≡ 0
numbers_hold_none [] = refl
numbers_hold_none (k ∷ ks) = numbers_hold_none ks

concluded_spent : (c : Course) → (concluded c).spent ≡ spent_of c
concluded_spent (done s x) = refl
concluded_spent (stopped f x) = refl

pub steps_of_chain : (q : Code) (s : Stack Code) → (spent_of (meaning q s)).steps ≤ commands q + stacked s
steps_of_chain q s = few (bounded q s)

steps_of_program : (p : Source) (ks : List ℤ) → (run p ks).spent.steps ≤ commands (code_of p)
unfolding run
steps_of_program (source n c) ks =
    cond_both (eqb (length ks) n) (concluded (meaning c (numbers ks))) refused (λ (r : Run). r.spent.steps ≤ commands c)
    (λ e. let spent = ap (λ (x : Spent). x.steps) (concluded_spent (meaning c (numbers ks))) in omega (arith, steps_of_chain c (numbers ks), numbers_hold_none ks))
    (λ e. omega arith)

pub steps_within_commands : StepsWithinCommands
steps_within_commands = record { chains = steps_of_chain; programs = steps_of_program }
