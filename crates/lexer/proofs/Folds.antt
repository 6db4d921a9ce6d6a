-- The digits of a word, read one after the other.
use Rattle.std.proofs.Common.{◌≡◌, ℕ, ◌+◌, ◌*◌, ◌^◌, ◌<◌, ◌≤◌, min, Bool, true, false, ◌&&◌, List, [], ◌∷◌, length, get_or, take, drop, Some, None, Option, Bor, Iter, sym, refl, ap, ◌∙◌, subst, arith, length-drop}
use Rattle.std.specs.Char.{digit_value, is_ascii_digit}
use Rattle.std.specs.Iterator.{Yields}
use Rattle.std.specs.List.{FoldsTo}
use Rattle.std.specs.Option.{MatchOption}
use Rattle.std.specs.Str.Parse.{digits_value}
use Rattle.std.specs.Str.{all_ascii_digits}
use Rattle.std.proofs.lemmas.Bool.Decides.{nat_tests}
use Rattle.std.proofs.lemmas.Fn.{fronts}
use Rattle.std.proofs.lemmas.List.{drop-drop, get_or-drop, nil_from_length, take_all}
use Rattle.grammar.specs.Words.{digital}
use Rattle.grammar.proofs.Words.{digits_more, held_more, digital-from}
use Rattle.lexer.specs.Wording.{Digits}

-- the first i bytes of a word are digits, and a is their value, or 2 ^ 32 if the value is larger
abbrev pub Kept : List ℕ → ℕ → ℕ → Type 0
Kept w i a = (all_ascii_digits w ≡ all_ascii_digits (drop i w)) × (a ≡ min (digits_value 10 (take i w)) (2 ^ 32))

-- a digit goes on from the value a to the value b
abbrev pub Goes : ℕ → ℕ → ℕ → Type 0
Goes a c b = (digit_value c < 10) × (b ≡ min (2 ^ 32) (a * 10 + digit_value c))

no_digit : (c : ℕ) → 10 ≤ digit_value c → is_ascii_digit c ≡ false
no_digit c h = grind (arith, nat_tests)

not_digital : (w : List ℕ) → all_ascii_digits w ≡ false → digital w ≡ false
not_digital [] h = refl
not_digital (c ∷ cs) h = h

module _ (w : List ℕ) where
  -- the byte at which a part of the word begins that ends where the word ends
  head_at : (i c : ℕ) (cs : List ℕ) → drop i w ≡ c ∷ cs → (i < length w) × (get_or w i 0 ≡ c) × (cs ≡ drop (i + 1) w)
  head_at i c cs e =
      let l : length (drop i w) ≡ length (c ∷ cs) = ap length e in
      let here : i ≡ i + 0 = omega arith in
      (omega (arith, l, length-drop i w), ap (λ (k : ℕ). get_or w k 0) here ∙ sym (get_or-drop i w 0 0) ∙ ap (λ (xs : List ℕ). get_or xs 0 0) e, ap (drop 1) (sym e) ∙ drop-drop 1 i w)

  kept_more : (i a c b : ℕ) → i < length w → get_or w i 0 ≡ c → Goes a c b → Kept w i a → Kept w (i + 1) b
  kept_more i a c b l e g k = (digits_more w i l (subst (λ (d : ℕ). digit_value d < 10) (sym e) g.0) k.0, g.1 ∙ ap (λ (d : ℕ). min (2 ^ 32) (a * 10 + digit_value d)) (sym e) ∙ held_more w i a l k.1)

  pub kept_along : (R : Unit {0} × ℕ → Bor ℕ → Unit {0} × ℕ → Type 0) → ((p : Unit {0} × ℕ) (x : Bor ℕ) (q : Unit {0} × ℕ) → R p x q → Goes p.1 x.now q.1)
      → (xs : List (Bor ℕ)) (s t : Iter ℕ) (p q : Unit {0} × ℕ) (i : ℕ) → s.rest.now ≡ drop i w → Kept w i p.1 → Yields fronts s xs t → FoldsTo R p xs q → (k : ℕ) × (t.rest.now ≡ drop k w) × Kept w k q.1
  kept_along R goes [] s t p q i e k y f = (i, ap (λ (u : Iter ℕ). u.rest.now) (sym y) ∙ e, subst (λ (v : Unit {0} × ℕ). Kept w i v.1) f k)
  kept_along R goes (x ∷ xs) s t p q i e k y f =
      let h = head_at i x.now y.0.rest.now (sym e ∙ y.1) in
      kept_along R goes xs y.0 t f.0 q (i + 1) h.2 (kept_more i p.1 x.now f.0.1 h.0 h.1 (goes p x f.0 f.1) k) y.2 f.2

  -- the word's end, or a byte that is no digit
  pub told_digits : (i a : ℕ) (t u : Iter ℕ) (o : Option (Bor ℕ)) (P : Bor ℕ → Type 0) (r : Option ℕ) → ((x : Bor ℕ) → P x → (10 ≤ digit_value x.now) × (r ≡ None))
      → 0 < length w → t.rest.now ≡ drop i w → Kept w i a → fronts t o u → MatchOption o (r ≡ Some a) P → Digits w r
  told_digits i a t u None P r stops l e k f m =
      let none : drop i w ≡ [] = sym e ∙ nil_from_length t.rest.now f.0 in
      let all : length w ≤ i = omega (arith, ap length none, length-drop i w) in
      let d : digital w ≡ true = digital-from w l (k.0 ∙ ap all_ascii_digits none) in
      rw m (d, k.1 ∙ ap (λ (xs : List ℕ). min (digits_value 10 xs) (2 ^ 32)) (take_all i w all))
  told_digits i a t u (Some x) P r stops l e k f m =
      let h = stops x m in
      let other : all_ascii_digits w ≡ false = k.0 ∙ ap all_ascii_digits (sym e ∙ f) ∙ ap (λ (b : Bool). b && all_ascii_digits u.rest.now) (no_digit x.now h.0) in
      rw h.1 (not_digital w other)
