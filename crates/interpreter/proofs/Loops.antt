-- What a run keeps from turn to turn.
use Rattle.std.proofs.Common.{◌≡◌, ℕ, ◌+◌, ◌*◌, ◌<◌, ◌≤◌, List, [], ◌∷◌, length, ℤ, Ok, Err, Result, sym, refl, ap, ◌∙◌, subst, arith}
use Rattle.codes.specs.declared.Fault.{Fault}
use Rattle.syntax.specs.Bounds.{most_commands, most_parameters, working_places}
use Rattle.syntax.specs.Code.{Code, end, append}
use Rattle.syntax.proofs.Growing.{append-end}
use Rattle.semantics.specs.declared.Spent.{Spent}
use Rattle.semantics.specs.Commands.{Stack}
use Rattle.semantics.specs.Denoting.{denotes}
use Rattle.semantics.specs.Laws.{spent_of}
use Rattle.semantics.specs.Meaning.{Outcome, Course, done, stopped, one_step, spend, meaning, result, concluded, numbers}
use Rattle.semantics.proofs.Courses.{spend-nothing, spend-spend, plus-nothing}
use Rattle.semantics.proofs.Denoting.{result_denoted, numbers_denoted}
use Rattle.semantics.proofs.Meanings.{clauses}
use Rattle.program.specs.declared.record.Program.{Program}
use Rattle.program.specs.Programs.{from}
use Rattle.interpreter.specs.declared.turning.Turn.{Turn}
use Rattle.interpreter.specs.declared.turning.Turn.TheVariants.{Ran, Returned, Ended}
use Rattle.interpreter.specs.Turning.{chained, rest, Went}

abbrev steps : ℕ → Spent
steps k = record { steps = k }

-- the steps that are left
abbrev pub left : (ℕ → Code) → ℕ → List ℕ → Stack ℕ → ℕ
left f v vs s = (spent_of (rest f v vs s)).steps

-- a run that is `all` from its start has come here in k steps
pub record Come (f : ℕ → Code) (all : Course) (v : ℕ) (vs : List ℕ) (s : Stack ℕ) (k : ℕ) : Type 0 where
  pub course : all ≡ spend (steps k) (rest f v vs s)
  pub few : (spent_of all).steps ≤ most_commands
  pub values : length s ≤ most_parameters + k
  pub chains : length vs ≤ k

module _ (f : ℕ → Code) (all : Course) (v : ℕ) (vs : List ℕ) (s : Stack ℕ) (k : ℕ) (h : Come f all v vs s k) where
  pub ended : (w : ℕ) (ws : List ℕ) (t : Stack ℕ) → Went f v s vs (Ok Ended) w t ws → record { outcome = result t; spent = steps k } ≡ concluded all
  ended w ws t (e, same) =
      let course : all ≡ done (denotes f s) (steps k) =
      h.course ∙ ap (λ (q : Code). spend (steps k) (meaning q (denotes f s))) e ∙ ap (spend (steps k)) (clauses.ends (denotes f s)) ∙ ap (done (denotes f s)) (plus-nothing (steps k)) in
      ap (λ (u : Stack ℕ). record { outcome = result u; spent = steps k }) same
      ∙ ap (λ (o : Outcome). record { outcome = o; spent = steps k }) (sym (result_denoted f s))
      ∙ ap concluded (sym course)

  pub stopped_at : (g : Fault) (w : ℕ) (ws : List ℕ) (t : Stack ℕ) → Went f v s vs (Err g) w t ws → record { outcome = Err g; spent = steps (k + 1) } ≡ concluded all
  stopped_at g w ws t e = ap concluded (sym (h.course ∙ ap (spend (steps k)) e))

-- at the start, where nothing has run
pub start : (f : ℕ → Code) (c : Code) (v : ℕ) (ks : List ℤ) (vs : List ℕ) (s : Stack ℕ) → f v ≡ c → vs ≡ [] → s ≡ numbers ks → length s ≤ most_parameters → (spent_of (meaning c (numbers ks))).steps ≤ most_commands
    → Come f (meaning c (numbers ks)) v vs s 0
start f c v ks vs s e none args few l =
    record {
      course = ap (λ (q : Code). meaning q (numbers ks)) (sym (append-end c) ∙ ap (λ (q : Code). append q end) (sym e))
          ∙ ap (λ (us : List ℕ). meaning (chained f (v ∷ us)) (numbers ks)) (sym none)
          ∙ ap (λ (t : Stack Code). meaning (chained f (v ∷ vs)) t) (sym (numbers_denoted f ks) ∙ ap (denotes f) (sym args))
          ∙ sym (spend-nothing (rest f v vs s));
      few = l;
      values = omega arith;
      chains = let n = ap length none in omega arith;
    }

-- a turn, said of the program that it is known to be over and of the answer that it is known to give
pub said_of : (p q : Program) (v : ℕ) (s : Stack ℕ) (vs : List ℕ) (r x : Result Turn Fault) (w : ℕ) (t : Stack ℕ) (ws : List ℕ) → p ≡ q → r ≡ x → Went (from p) v s vs r w t ws → Went (from q) v s vs x w t ws
said_of p q v s vs r x w t ws e f h = subst (λ (y : Result Turn Fault). Went (from q) v s vs y w t ws) f (subst (λ (z : Program). Went (from z) v s vs r w t ws) e h)
