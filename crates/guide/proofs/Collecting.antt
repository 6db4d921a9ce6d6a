-- Arguments are collected word by word.
use Rattle.std.proofs.Common.{◌≡◌, ℕ, ◌+◌, ◌<◌, List, [], ◌∷◌, ◌++◌, map, length, get_or, drop, ℤ, Ok, Err, Result, sym, refl, ap, ◌∙◌, subst, to_z-of_z, w32, SFits, to_z, of_z}
use Rattle.std.proofs.lemmas.List.{append_assoc, at_drop_more, get_or-map, length-map}
use Rattle.codes.specs.declared.Refusal.{Refusal}
use Rattle.grammar.specs.Words.{meaning}
use Rattle.guide.specs.declared.arguments.ArgumentsError.TheVariants.{Wrong}
use Rattle.guide.specs.declared.arguments.WrongArgument.{WrongArgument}
use Rattle.guide.specs.RunReports.{Collects, argument_of, with_first, arguments_from, arguments_of}

-- some numbers, and then what is left
abbrev pub behind : List ℤ → Result (List ℤ) WrongArgument → Result (List ℤ) WrongArgument
behind ks (Ok zs) = Ok (ks ++ zs)
behind ks (Err w) = Err w

behind_more : (ks : List ℤ) (n : ℕ) (z : ℤ) (a : Result (List ℤ) WrongArgument) → behind ks (with_first n (Ok z) a) ≡ behind (ks ++ z ∷ []) a
behind_more ks n z (Ok zs) = ap (λ (l : List ℤ). Ok l) (sym (append_assoc ks (z ∷ []) zs))
behind_more ks n z (Err w) = refl

-- where i of the words have given ks, and what the others give is left
abbrev pub Collected : List (List ℕ) → List ℤ → ℕ → Type 0
Collected ws ks i = arguments_of ws ≡ behind ks (arguments_from (i + 1) (drop i ws))

-- the bytes of an item at i, among the bytes of all items
pub bytes-at : {X : Type 0} (f : X → List ℕ) (xs : List X) (i : ℕ) (x : X) (w : List ℕ) → i < length xs → x ≡ get_or xs i x → w ≡ f x → w ≡ get_or (map f xs) i w
bytes-at f xs i x w l e b = b ∙ ap f e ∙ sym (get_or-map f xs i x w l)

pub within-map : {X : Type 0} (f : X → List ℕ) (xs : List X) (i : ℕ) → i < length xs → i < length (map f xs)
within-map f xs i l = rw length-map l

-- the word at i
at_word : (ws : List (List ℕ)) (ks : List ℤ) (i : ℕ) (w : List ℕ) → i < length ws → w ≡ get_or ws i w → Collected ws ks i → arguments_of ws ≡ behind ks (with_first (i + 1) (argument_of (meaning w)) (arguments_from (i + 1 + 1) (drop (i + 1) ws)))
at_word ws ks i w l e c =
    c ∙ at_drop_more (λ (vs : List (List ℕ)). behind ks (arguments_from (i + 1) vs)) ws i w l
    ∙ ap (λ (v : List ℕ). behind ks (with_first (i + 1) (argument_of (meaning v)) (arguments_from (i + 1 + 1) (drop (i + 1) ws)))) (sym e)

-- a number, which is pushed by its bits
pub one_collected : (ws : List (List ℕ)) (ks more : List ℤ) (i : ℕ) (w : List ℕ) (z : ℤ) → SFits w32 z → i < length ws → w ≡ get_or ws i w → Ok z ≡ argument_of (meaning w) → more ≡ ks ++ to_z w32 (of_z w32 z) ∷ [] → Collected ws ks i → Collected ws more (i + 1)
one_collected ws ks more i w z f l e a m c =
    at_word ws ks i w l e c
    ∙ ap (λ (r : Result ℤ Refusal). behind ks (with_first (i + 1) r (arguments_from (i + 1 + 1) (drop (i + 1) ws)))) (sym a)
    ∙ behind_more ks (i + 1) z (arguments_from (i + 1 + 1) (drop (i + 1) ws))
    ∙ ap (λ (l : List ℤ). behind l (arguments_from (i + 1 + 1) (drop (i + 1) ws))) (sym (m ∙ ap (λ (y : ℤ). ks ++ y ∷ []) (to_z-of_z f)))

-- a word that is none
pub wrong_one : (ws : List (List ℕ)) (ks : List ℤ) (i : ℕ) (w : List ℕ) (r : Refusal) → i < length ws → w ≡ get_or ws i w → Err r ≡ argument_of (meaning w) → Collected ws ks i → Err (record { refusal = r; at = i + 1 }) ≡ arguments_of ws
wrong_one ws ks i w r l e a c =
    sym (at_word ws ks i w l e c ∙ ap (λ (r : Result ℤ Refusal). behind ks (with_first (i + 1) r (arguments_from (i + 1 + 1) (drop (i + 1) ws)))) (sym a))

-- the first wrong word is told
pub collects_wrong : (a : Result (List ℤ) WrongArgument) (w : WrongArgument) → Err w ≡ a → Collects a (Err (Wrong w))
collects_wrong a w e = subst (λ (b : Result (List ℤ) WrongArgument). Collects b (Err (Wrong w))) e refl
