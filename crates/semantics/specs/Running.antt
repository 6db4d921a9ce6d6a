-- How a run goes on, one command at a time, and how it may end: what remains to run is one chain, and a sequence that is
-- entered comes before the rest.
use Rattle.std.specs.Prelude.{◌≡◌, ℕ, List, [], ◌∷◌, length, ℤ, Ok, Err, ◌≢◌}
use Rattle.codes.specs.declared.Fault.{Fault}
use Rattle.codes.specs.declared.Fault.TheVariants.{Arguments, Empty, SequenceOnTop}
use Rattle.syntax.specs.declared.Name.{Name}
use Rattle.syntax.specs.Code.{Code, end, numeral, name, sequence, append, Source, source}
use Rattle.semantics.specs.declared.Value.TheVariants.{Numeral, Sequence}
use Rattle.semantics.specs.declared.Spent.{Spent}
use Rattle.semantics.specs.declared.Run.{Run}
use Rattle.semantics.specs.Commands.{Stack, next, enter, stop, act}
use Rattle.semantics.specs.Meaning.{Course, done, stopped, nothing, one_step, price, spend, numbers}

-- a chain runs on a stack, command by command, and ends so
pub data Runs : Code → Stack Code → Course → Type 0 where
  ends : {s : Stack Code} → Runs end s (done s nothing)
  pushes_numeral : {k : ℤ} {q : Code} {s : Stack Code} {c : Course} → Runs q (Numeral k ∷ s) c → Runs (numeral k q) s (spend one_step c)
  pushes_sequence : {b q : Code} {s : Stack Code} {c : Course} → Runs q (Sequence b ∷ s) c → Runs (sequence b q) s (spend one_step c)
  goes_on : {o : Name} {q : Code} {s t : Stack Code} {c : Course} → act o s ≡ next t → Runs q t c → Runs (name o q) s (spend (price o s) c)
  enters : {o : Name} {b q : Code} {s t : Stack Code} {c : Course} → act o s ≡ enter b t → Runs (append b q) t c → Runs (name o q) s (spend (price o s) c)
  stops : {o : Name} {q : Code} {s : Stack Code} {f : Fault} → act o s ≡ stop f → Runs (name o q) s (stopped f (price o s))

-- a program runs on its arguments and ends so: not at all, with the number on top, with nothing or a sequence there, or at a fault
pub data Ends : Source → List ℤ → Run → Type 0 where
  wrong_count : {n : ℕ} {c : Code} {ks : List ℤ} → (length ks ≢ n) → Ends (source n c) ks (record { outcome = Err Arguments; spent = nothing })
  number : {n : ℕ} {c : Code} {ks : List ℤ} {k : ℤ} {s : Stack Code} {x : Spent} → length ks ≡ n → Runs c (numbers ks) (done (Numeral k ∷ s) x) → Ends (source n c) ks (record { outcome = Ok k; spent = x })
  empty : {n : ℕ} {c : Code} {ks : List ℤ} {x : Spent} → length ks ≡ n → Runs c (numbers ks) (done [] x) → Ends (source n c) ks (record { outcome = Err Empty; spent = x })
  sequence_on_top : {n : ℕ} {c b : Code} {ks : List ℤ} {s : Stack Code} {x : Spent} → length ks ≡ n → Runs c (numbers ks) (done (Sequence b ∷ s) x) → Ends (source n c) ks (record { outcome = Err SequenceOnTop; spent = x })
  faulted : {n : ℕ} {c : Code} {ks : List ℤ} {f : Fault} {x : Spent} → length ks ≡ n → Runs c (numbers ks) (stopped f x) → Ends (source n c) ks (record { outcome = Err f; spent = x })
