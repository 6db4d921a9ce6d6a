-- What stands at the front of lent bytes after a print.
use Rattle.std.proofs.Common.{◌≡◌, ℕ, ◌≤◌, Bool, ◌||◌, ltb, List, ◌++◌, length, take, drop, Ok, Err, Result, sym, refl, ap, ◌∙◌, subst, take_at, rules}
use Rattle.std.specs.Result.{IsOk}
use Rattle.std.proofs.lemmas.Bool.{cond-false, le-ltb}
use Rattle.codes.specs.declared.Refusal.{Refusal}
use Rattle.codes.specs.declared.Refusal.TheVariants.{Space}
use Rattle.syntax.specs.Bounds.{working_places}
use Rattle.printer.specs.Printed.{print_answer}

-- the front of the bytes is the text
pub front : (text lent out : List ℕ) (n : ℕ) → n ≡ length text → out ≡ text ++ drop (length text) lent → take n out ≡ text
front text lent out n e f = ap (λ (m : ℕ). take m out) e ∙ ap (take (length text)) f ∙ take_at text (drop (length text) lent) (length text) refl

-- a print for which there is room succeeds
pub printed : (places room : ℕ) (text : List ℕ) (r : Result ℕ Refusal) → r ≡ print_answer places text room → working_places ≤ places → length text ≤ room → IsOk r
printed places room text r e l m =
    subst IsOk (sym (e ∙ cond-false (ltb places working_places || ltb room (length text)) (Err Space) (Ok (length text))
    (ap (λ (b : Bool). b || ltb room (length text)) (le-ltb places working_places l) ∙ le-ltb room (length text) m))) (search rules)
