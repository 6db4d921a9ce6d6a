-- What a byte is to the tokens, and where a word stops.
use Rattle.std.proofs.Common.{◌≡◌, ℕ, true, false, [], refl, arith}
use Rattle.std.proofs.lemmas.Bool.Decides.{nat_tests}
use Rattle.grammar.specs.Tokens.{white, kind, space, left, right, letter, Kind, Cut, put, joined}

pub white_space : (c : ℕ) → white c ≡ true → kind c ≡ space
white_space c h = grind (arith, nat_tests)

-- a byte that is no letter begins with no word
pub put-stop : (k : Kind) (c : ℕ) (x : Cut) → (k ≡ letter → ⊥) → put k c x ≡ ([], joined (put k c x))
put-stop space c x h = refl
put-stop left c x h = refl
put-stop right c x h = refl
put-stop letter c x h = absurd (h refl)

pub letter_from : (c : ℕ) → (c ≡ 40 → ⊥) → (c ≡ 41 → ⊥) → white c ≡ false → kind c ≡ letter
letter_from c p q w = grind (arith, nat_tests)
