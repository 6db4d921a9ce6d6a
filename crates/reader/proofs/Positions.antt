-- Lines and columns, one byte further.
use Rattle.std.proofs.Common.{◌≡◌, ℕ, ◌+◌, ◌<◌, ◌≤◌, eqb, List, [], ◌∷◌, ◌++◌, length, get_or, take, sym, refl, ap, ◌∙◌, arith}
use Rattle.std.proofs.lemmas.List.{take_more}
use Rattle.std.proofs.lemmas.Bool.{cond-true, cond-false, eq-eqb, ne_eqb}
use Rattle.reader.specs.declared.place.Position.{Position}
use Rattle.reader.specs.Places.{at_line, first_place, past, position_after}

-- the place behind the first bytes of a text, and that its numbers are no larger than counting makes them
pub record Reached (text : List ℕ) (i : ℕ) (p : Position) : Type 0 where
  pub place : p ≡ position_after first_place (take i text)
  pub line : p.line ≤ i + 1
  pub column : p.column ≤ i + 1

one_more : (p : Position) (bs : List ℕ) (b : ℕ) → position_after p (bs ++ b ∷ []) ≡ past (position_after p bs) b
one_more p [] b = refl
one_more p (c ∷ bs) b = one_more (past p c) bs b

past_line_feed : (p : Position) (b : ℕ) → b ≡ 10 → at_line (p.line + 1) 1 ≡ past p b
past_line_feed p b e = sym (cond-true (eqb b 10) (at_line (p.line + 1) 1) (at_line p.line (p.column + 1)) (eq-eqb b 10 e))

past_other : (p : Position) (b : ℕ) → (b ≡ 10 → ⊥) → at_line p.line (p.column + 1) ≡ past p b
past_other p b e = sym (cond-false (eqb b 10) (at_line (p.line + 1) 1) (at_line p.line (p.column + 1)) (ne_eqb b 10 e))

module _ (text : List ℕ) (i : ℕ) (p q : Position) (l : i < length text) (reached : Reached text i p) where
  next_place : q ≡ past p (get_or text i 0) → q ≡ position_after first_place (take (i + 1) text)
  next_place e =
      e
      ∙ ap (λ (x : Position). past x (get_or text i 0)) reached.place
      ∙ sym (ap (position_after first_place) (take_more text i 0 l) ∙ one_more first_place (take i text) (get_or text i 0))

  pub behind_line_feed : get_or text i 0 ≡ 10 → q ≡ at_line (p.line + 1) 1 → Reached text (i + 1) q
  behind_line_feed b e =
      let line = reached.line in
      let column = reached.column in
      record {
        place = next_place (e ∙ past_line_feed p (get_or text i 0) b);
        line = omega (arith, ap (λ (x : Position). x.line) e);
        column = omega (arith, ap (λ (x : Position). x.column) e);
      }

  pub behind_other : (get_or text i 0 ≡ 10 → ⊥) → q ≡ at_line p.line (p.column + 1) → Reached text (i + 1) q
  behind_other b e =
      let line = reached.line in
      let column = reached.column in
      record {
        place = next_place (e ∙ past_other p (get_or text i 0) b);
        line = omega (arith, ap (λ (x : Position). x.line) e);
        column = omega (arith, ap (λ (x : Position). x.column) e);
      }
