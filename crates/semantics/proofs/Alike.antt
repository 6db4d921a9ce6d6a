-- Stacks that differ only in what stands for their sequences.
use Rattle.std.proofs.Common.{[], ◌∷◌, ℤ}
use Rattle.semantics.specs.declared.Value.{Value}
use Rattle.semantics.specs.declared.Value.TheVariants.{Numeral, Sequence}
use Rattle.semantics.specs.Commands.{Stack}

-- one number, which has the property P, or two sequences that R relates
pub data Alike {A B : Type 0} (P : ℤ → Type 0) (R : A → B → Type 0) : Value A → Value B → Type 0 where
  numerals : {k : ℤ} → P k → Alike P R (Numeral k) (Numeral k)
  sequences : {a : A} {b : B} → R a b → Alike P R (Sequence a) (Sequence b)

-- value by value
pub data Alikes {A B : Type 0} (P : ℤ → Type 0) (R : A → B → Type 0) : Stack A → Stack B → Type 0 where
  none : Alikes P R [] []
  more : {v : Value A} {w : Value B} {s : Stack A} {t : Stack B} → Alike P R v w → Alikes P R s t → Alikes P R (v ∷ s) (w ∷ t)
