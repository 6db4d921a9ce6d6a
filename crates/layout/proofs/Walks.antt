-- How a walk along links goes on, for whatever it gathers.
use Rattle.std.proofs.Common.{◌≡◌, ℕ, zero, suc, ◌+◌, ◌<◌, ◌≤◌, true, List, [], ◌∷◌, length, drop, sym, refl, ap, ◌∙◌, arith}
use Rattle.std.proofs.lemmas.Bool.{ne_eqb, eq-eqb, ltb-true}
use Rattle.layout.specs.declared.Place.{Place}
use Rattle.layout.specs.Tables.{at, walk, along, on, ahead}

module _ {R : Type 0} (stop : R) (pass : ℕ → (ℕ → R) → Place → R) where
  -- a link to below the places, or past them, ends a chain
  low : (b : ℕ) (ps : List Place) (v : ℕ) → v < b → walk stop pass b ps v ≡ stop
  unfolding walk
  low b [] v h = refl
  low b (p ∷ ps) v h = rw (ne_eqb v b (λ w. omega arith)) (low (suc b) ps v (omega arith))

  high : (b : ℕ) (ps : List Place) (v : ℕ) → b + length ps ≤ v → walk stop pass b ps v ≡ stop
  unfolding walk
  high b [] v h = refl
  high b (p ∷ ps) v h = rw (ne_eqb v b (λ w. omega arith)) (high (suc b) ps v (omega arith))

  pub past : (ps : List Place) (v : ℕ) → length ps ≤ v → along stop pass ps v ≡ stop
  past ps zero h = refl
  past ps (suc v) h = high 0 ps (suc v) (omega arith)

  skip : (k b m : ℕ) (ps : List Place) (v : ℕ) → m ≡ b + k → m ≤ v → walk stop pass b ps v ≡ walk stop pass m (drop k ps) v
  unfolding walk
  skip zero b m ps v e h = let q : b ≡ m = omega arith in ap (λ n. walk stop pass n ps v) q
  skip (suc k) b m [] v e h = refl
  skip (suc k) b m (p ∷ ps) v e h = rw (ne_eqb v b (λ w. omega arith)) (skip k (suc b) m ps v (omega arith) h)

  here : (n b : ℕ) (ps : List Place) (v : ℕ) → v ≡ b + n → n < length ps → walk stop pass b ps v ≡ pass v (walk stop pass (suc v) (drop (suc n) ps)) (at ps n)
  unfolding walk
  here n b [] v e h = let z : ⊥ = omega arith in absurd z
  here zero b (p ∷ ps) v e h = let q : b ≡ v = omega arith in rw (eq-eqb v b (sym q)) (ap (λ m. pass m (walk stop pass (suc m) ps) p) q)
  here (suc n) b (p ∷ ps) v e h = rw (ne_eqb v b (λ w. omega arith)) (here n (suc b) ps v (omega arith) (omega arith))

  leads : (ps : List Place) (u v : ℕ) → on u v ≡ true → walk stop pass (suc u) (drop (suc u) ps) v ≡ along stop pass ps v
  leads ps u zero h = low (suc u) (drop (suc u) ps) 0 (omega arith)
  leads ps u (suc v) h = sym (skip (suc u) 0 (suc u) ps (suc v) (omega arith) (omega (arith, ltb-true u (suc v) h)))

  -- at a place whose links lead on, a walk does what `pass` says and goes on by these links
  pub step : ((b : ℕ) (f g : ℕ → R) (p : Place) → ((v : ℕ) → on b v ≡ true → f v ≡ g v) → ahead b p.command ≡ true → on b p.next ≡ true → pass b f p ≡ pass b g p)
      → (ps : List Place) (u : ℕ) (p : Place) → 0 < u → u < length ps → at ps u ≡ p → ahead u p.command ≡ true → on u p.next ≡ true → along stop pass ps u ≡ pass u (along stop pass ps) p
  step same ps zero p h l e a o = let z : ⊥ = omega arith in absurd z
  step same ps (suc n) p h l e a o =
      here (suc n) 0 ps (suc n) (omega arith) l
      ∙ ap (pass (suc n) (walk stop pass (suc (suc n)) (drop (suc (suc n)) ps))) e
      ∙ same (suc n) (walk stop pass (suc (suc n)) (drop (suc (suc n)) ps)) (along stop pass ps) p (leads ps (suc n)) a o
