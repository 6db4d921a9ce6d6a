-- Texts, arguments, and what comes of them.
use Rattle.std.specs.Prelude.{◌≡◌, ℕ, List, [], ◌∷◌, ℤ, pos, negsuc, Ok, Err, codes}
use Rattle.codes.specs.Codes.{fault_number}
use Rattle.syntax.specs.Code.{Source}
use Rattle.grammar.specs.Reading.{parse, taken}
use Rattle.semantics.specs.declared.Run.{Run}
use Rattle.semantics.specs.Meaning.{Outcome, run}

-- a text, read and run on some arguments: it gives a number, it does so in some steps, or it stops at a fault by its number
pub data Case : Type 0 where
  gives : List ℕ → List ℤ → ℤ → Case
  gives_in : List ℕ → List ℤ → ℤ → ℕ → Case
  faults : List ℕ → List ℤ → ℕ → Case

-- an outcome is the fault with this number
abbrev pub StopsAt : ℕ → Outcome → Type 0
StopsAt n (Ok k) = ⊥
StopsAt n (Err f) = fault_number f ≡ n

-- a text is read as a program, whose run has a property
abbrev pub RunsSo : List ℕ → List ℤ → (Run → Type 0) → Type 0
RunsSo text ks P = (p : Source) × (parse text ≡ taken p) × P (run p ks)

abbrev pub Holds : Case → Type 0
Holds (gives text ks k) = RunsSo text ks (λ r. r.outcome ≡ Ok k)
Holds (gives_in text ks k n) = RunsSo text ks (λ r. (r.outcome ≡ Ok k) × (r.spent.steps ≡ n))
Holds (faults text ks n) = RunsSo text ks (λ r. StopsAt n r.outcome)

abbrev pub AllHold : List Case → Type 0
AllHold [] = Unit {0}
AllHold (c ∷ cs) = Holds c × AllHold cs

abbrev pub marked_cases : List Case
marked_cases =
    gives (codes "(postfix 2 3 sub swap pop)") (pos 7 ∷ pos 8 ∷ []) (pos 4)
    ∷ faults (codes "(postfix 2 swap)") (pos 3 ∷ []) 11
    ∷ faults (codes "(postfix 1 swap)") (pos 3 ∷ []) 12
    ∷ faults (codes "(postfix 0 1 pop)") [] 17
    ∷ gives_in (codes "(postfix 1 ((3 nget swap exec) (2 mul swap exec) swap) (5 sub) swap exec exec)") (pos 7 ∷ []) (pos 9) 18
    ∷ gives (codes "(postfix 2 div)") (pos 2 ∷ negsuc 6 ∷ []) (negsuc 2)
    ∷ gives (codes "(postfix 2 rem)") (pos 2 ∷ negsuc 6 ∷ []) (negsuc 0)
    ∷ gives (codes "(postfix 1 1 add)") (pos 2147483647 ∷ []) (negsuc 2147483647)
    ∷ faults (codes "(postfix 1 2 nget)") (pos 5 ∷ []) 16
    ∷ gives (codes "(postfix 1 4 5 sel)") (pos 0 ∷ []) (pos 5)
    ∷ []
