-- The white bytes and the bytes of a word at the front of a text.
use Rattle.std.proofs.Common.{◌≡◌, ℕ, ◌+◌, ◌<◌, Bool, true, false, cond, List, [], ◌∷◌, length, get_or, take, drop, sym, refl, ap, ◌∙◌, one-add, arith}
use Rattle.std.specs.List.{prefix_len}
use Rattle.std.proofs.lemmas.Bool.Decides.{nat_tests}
use Rattle.grammar.specs.Tokens.{word, white, kind, letter, Kind, put, lex, joined, tokens}
use Rattle.grammar.proofs.Steps.{white_space, put-stop}
use Rattle.lexer.specs.Lexing.{is_letter}

past_one : (c n : ℕ) (xs : List ℕ) (b : Bool) → white c ≡ b → tokens (drop n xs) ≡ tokens xs → tokens (drop (cond b (1 + n) 0) (c ∷ xs)) ≡ tokens (c ∷ xs)
past_one c n xs true w e = rw one-add (e ∙ sym (ap (λ (k : Kind). joined (put k c (lex xs))) (white_space c w)))
past_one c n xs false w e = refl

-- white bytes at the front are no tokens
pub past_white : (xs : List ℕ) → tokens (drop (prefix_len white xs) xs) ≡ tokens xs
past_white [] = refl
past_white (c ∷ xs) = past_one c (prefix_len white xs) xs (white c) refl (past_white xs)

letter_kind : (c : ℕ) → is_letter c ≡ true → kind c ≡ letter
letter_kind c h = grind (arith, nat_tests)

no_letter : (c : ℕ) → is_letter c ≡ false → kind c ≡ letter → ⊥
no_letter c h = grind (arith, nat_tests)

cut_one : (c n : ℕ) (xs : List ℕ) (b : Bool) → is_letter c ≡ b → lex xs ≡ (take n xs, tokens (drop n xs)) → lex (c ∷ xs) ≡ (take (cond b (1 + n) 0) (c ∷ xs), tokens (drop (cond b (1 + n) 0) (c ∷ xs)))
cut_one c n xs true w e = rw one-add (ap (λ (k : Kind). put k c (lex xs)) (letter_kind c w) ∙ ap (put letter c) e)
cut_one c n xs false w e = put-stop (kind c) c (lex xs) (no_letter c w)

-- the letters at the front, and the tokens after them
cut : (xs : List ℕ) → lex xs ≡ (take (prefix_len is_letter xs) xs, tokens (drop (prefix_len is_letter xs) xs))
cut [] = refl
cut (c ∷ xs) = cut_one c (prefix_len is_letter xs) xs (is_letter c) refl (cut xs)

of_word : (c : ℕ) → (c ≡ 40 → ⊥) → (c ≡ 41 → ⊥) → white c ≡ false → is_letter c ≡ true
of_word c p q w = grind (arith, nat_tests)

-- a word at the front
pub word_first : (xs : List ℕ) → 0 < length xs → (get_or xs 0 0 ≡ 40 → ⊥) → (get_or xs 0 0 ≡ 41 → ⊥) → white (get_or xs 0 0) ≡ false → tokens xs ≡ word (take (prefix_len is_letter xs) xs) ∷ tokens (drop (prefix_len is_letter xs) xs)
word_first [] l p q w = absurd (omega arith)
word_first (c ∷ xs) l p q w = let h : is_letter c ≡ true = of_word c p q w in ap joined (cut (c ∷ xs)) ∙ rw (h, one-add) refl
