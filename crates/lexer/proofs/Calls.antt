-- What a call of `next` gives, over plain values.
use Rattle.std.proofs.Common.{◌≡◌, ℕ, ◌+◌, ◌-◌, ◌<◌, false, List, [], ◌∷◌, length, get_or, take, drop, Some, sym, ap, ◌∙◌, subst, arith, add-zero, length-drop}
use Rattle.std.specs.List.{prefix_len}
use Rattle.std.proofs.lemmas.List.{drop-drop, take_rest, get_or-drop}
use Rattle.std.proofs.lemmas.List.Sums.{prefix_len_stops}
use Rattle.grammar.specs.Tokens.{white, tokens}
use Rattle.lexer.specs.declared.lexer.Token.{Token}
use Rattle.lexer.specs.Lexing.{Leads, lexeme}
use Rattle.lexer.proofs.Runs.{past_white}

-- a part of a text that ends where the text ends
abbrev pub from : ℕ → List ℕ → List ℕ
from i text = take (length text - i) (drop i text)

module _ (text : List ℕ) (pos n : ℕ) (count : n ≡ prefix_len white (from pos text)) where
  counted : n ≡ prefix_len white (drop pos text)
  counted = count ∙ ap (prefix_len white) (take_rest text pos)

  -- the white bytes at the front add no token
  same_tokens : tokens (from (pos + n) text) ≡ tokens (drop pos text)
  same_tokens = ap tokens (take_rest text (pos + n) ∙ sym (drop-drop n pos text)) ∙ ap (λ (i : ℕ). tokens (drop i (drop pos text))) counted ∙ past_white (drop pos text)

  before_end : 0 < length (from (pos + n) text) → pos + n < length text
  before_end l = let m = rw (take_rest text (pos + n), length-drop (pos + n) text) at l in omega (arith, m)

  dark_at : pos + n < length text → white (get_or text (pos + n) 0) ≡ false
  dark_at l =
      let stops = prefix_len_stops white (drop pos text) 0 (omega (arith, counted, length-drop pos text)) in
      subst (λ (b : ℕ). white b ≡ false) (get_or-drop pos text n 0) (subst (λ (i : ℕ). white (get_or (drop pos text) i 0) ≡ false) (sym counted) stops)

  -- the byte after the white ones is not white
  pub dark : 0 < length (from (pos + n) text) → white (get_or (from (pos + n) text) 0 0) ≡ false
  dark l =
      let same : get_or text (pos + n + 0) 0 ≡ get_or (from (pos + n) text) 0 0 = sym (ap (λ (xs : List ℕ). get_or xs 0 0) (take_rest text (pos + n)) ∙ get_or-drop (pos + n) text 0 0) in
      subst (λ (b : ℕ). white b ≡ false) same (rw add-zero (dark_at (before_end l)))

  pub none_left : from (pos + n) text ≡ [] → tokens (drop pos text) ≡ []
  none_left e = sym same_tokens ∙ ap tokens e

  pub none_behind : from (pos + n) text ≡ [] → tokens (drop (pos + n) text) ≡ []
  none_behind e = ap tokens (sym (take_rest text (pos + n)) ∙ e)

  module _ (t : Token) (k : ℕ) (leads : Leads (from (pos + n) text) (Some (t, k))) where
    pub some_left : tokens (drop pos text) ≡ lexeme t ∷ tokens (drop (pos + n + k) text)
    some_left =
        sym same_tokens ∙ leads.2 ∙ ap (λ (xs : List ℕ). lexeme t ∷ tokens (drop k xs)) (take_rest text (pos + n)) ∙ ap (λ (xs : List ℕ). lexeme t ∷ tokens xs) (drop-drop k (pos + n) text)

    pub begun : (pos + n < length text) × (white (get_or text (pos + n) 0) ≡ false) × (tokens (drop (pos + n) text) ≡ tokens (drop pos text))
    begun = let l = before_end leads.1 in (l, dark_at l, ap tokens (sym (take_rest text (pos + n))) ∙ same_tokens)
