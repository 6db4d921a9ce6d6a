-- A number's digits, set from the last one on into the end of a list.
use Rattle.std.proofs.Common.{◌≡◌, ℕ, ◌+◌, ◌-◌, ◌/◌, ◌%◌, ◌^◌, ◌<◌, ◌≤◌, List, [], ◌∷◌, ◌++◌, length, take, drop, set, decimal, sym, ap, ◌∙◌, arith}
use Rattle.std.proofs.lemmas.Fmt.{decimal_digit, decimal_step, decimal_nonempty, length-decimal-le}
use Rattle.std.proofs.lemmas.List.{append_assoc, append-nil, length-append, length-drop, length-set, drop_all, drop-set}
use Rattle.std.proofs.lemmas.Slice.{between_to_end}

-- the digits behind place i are set, and those of the front of the number are still to come, the last of them at place i
pub record DigitsFrom (n : ℕ) (digits : List ℕ) (i front : ℕ) : Type 0 where
  pub places : length digits ≡ 10
  pub within : i ≤ 9
  pub below : front ≤ n
  pub join : decimal front ++ drop (i + 1) digits ≡ decimal n

pub digits-none : (n : ℕ) (digits : List ℕ) → length digits ≡ 10 → DigitsFrom n digits 9 n
digits-none n digits l =
    record {
      places = l;
      within = omega arith;
      below = omega arith;
      join = ap (λ (x : List ℕ). decimal n ++ x) (drop_all 10 digits (omega arith)) ∙ append-nil (decimal n);
    }

-- where the front has two digits or more, there is a place before place i
pub digits-place : (n : ℕ) (digits : List ℕ) (i front : ℕ) → n < 2 ^ 32 → 10 ≤ front → DigitsFrom n digits i front → 1 ≤ i
digits-place n digits i front h l d =
    let b = d.below in
    let p = d.places in
    let w = d.within in
    let all = length-decimal-le 10 n (omega arith) (omega arith) (omega arith) in
    let joined = ap length d.join in
    let apart = length-append (decimal front) (drop (i + 1) digits) in
    let behind = length-drop (i + 1) digits in
    let step = ap length (decimal_step front l (omega arith)) in
    let steps = length-append (decimal (front / 10)) ((48 + front % 10) ∷ []) in
    let some = decimal_nonempty (front / 10) (omega arith) in
    omega arith

pub digits_more : (n : ℕ) (digits : List ℕ) (i front : ℕ) → n < 2 ^ 32 → 10 ≤ front → DigitsFrom n digits i front → DigitsFrom n (set digits i (48 + front % 10)) (i - 1) (front / 10)
digits_more n digits i front h l d =
    let b = d.below in
    let p = d.places in
    let w = d.within in
    let there = digits-place n digits i front h l d in
    let one : i - 1 + 1 ≡ i = omega arith in
    let rest : List ℕ = drop (i + 1) digits in
    record {
      places = length-set digits i (48 + front % 10) ∙ p;
      within = omega arith;
      below = omega arith;
      join = ap (λ (j : ℕ). decimal (front / 10) ++ drop j (set digits i (48 + front % 10))) one
          ∙ ap (λ (x : List ℕ). decimal (front / 10) ++ x) (drop-set digits i (48 + front % 10) (omega arith))
          ∙ sym (append_assoc (decimal (front / 10)) ((48 + front % 10) ∷ []) rest)
          ∙ ap (λ (x : List ℕ). x ++ rest) (sym (decimal_step front l (omega arith)))
          ∙ d.join;
    }

pub digits-all : (n : ℕ) (digits : List ℕ) (i front : ℕ) → front < 10 → DigitsFrom n digits i front → take (10 - i) (drop i (set digits i (48 + front))) ≡ decimal n
digits-all n digits i front l d =
    let p = d.places in
    let w = d.within in
    let s = length-set digits i (48 + front) in
    between_to_end (set digits i (48 + front)) i 10 (omega arith)
    ∙ drop-set digits i (48 + front) (omega arith)
    ∙ ap (λ (x : List ℕ). x ++ drop (i + 1) digits) (sym (decimal_digit front l))
    ∙ d.join
