-- Chains that are laid out in the order of the text: what such a layout fixes, and what it spells.
use Rattle.std.proofs.Common.{◌≡◌, ℕ, zero, suc, ◌+◌, ◌<◌, ◌≤◌, true, ◌&&◌, eqb, ◌≢◌, ◌⊎◌, List, ◌∷◌, ◌++◌, length, take, ℤ, sym, refl, ap, ◌∙◌, subst, inl, inr, ⊎_elim, append_assoc, arith}
use Rattle.std.proofs.lemmas.List.{get_or-set_same, get_or-set_other, get_or-take, length-take-le}
use Rattle.std.proofs.lemmas.Bool.{and_from, and_parts, eq-eqb, eqb-true, cases_eq, cases_lt}
use Rattle.syntax.specs.declared.Name.{Name as CommandName}
use Rattle.layout.specs.declared.Command.{Command}
use Rattle.layout.specs.declared.Command.TheVariants.{Numeral, Name, Sequence}
use Rattle.layout.specs.declared.Place.{Place}
use Rattle.syntax.specs.Code.{Code, end, numeral, name, sequence, append, commands}
use Rattle.layout.specs.Tables.{place, vacant, at, along, command_then, place_then, chain, passed_at, no_more, counting, on, forward, link, holds, lies}
use Rattle.layout.specs.Drafts.{last_place, relink}
use Rattle.layout.proofs.Chains.{past, step, passes, on_lt, three, forward-at, forward-take}

-- a chain lies at the places from u on in the order of its text, and t follows it
abbrev pub Laid : List Place → ℕ → Code → ℕ → Type 0
Laid ps u end t = Unit {0}
Laid ps u (numeral k q) t = (at ps u ≡ place (Numeral k) (link (suc u) q t)) × Laid ps (suc u) q t
Laid ps u (name o q) t = (at ps u ≡ place (Name o) (link (suc u) q t)) × Laid ps (suc u) q t
Laid ps u (sequence b q) t = (at ps u ≡ place (Sequence (link (suc u) b 0)) (link (suc (u + commands b)) q t)) × Laid ps (suc u) b 0 × Laid ps (suc (u + commands b)) q t

-- a layout is kept where its places are
pub agree : (ps qs : List Place) (u : ℕ) (c : Code) (t : ℕ) → ((i : ℕ) → u ≤ i → i < u + commands c → at qs i ≡ at ps i) → Laid ps u c t → Laid qs u c t
agree ps qs u end t f h = tt
agree ps qs u (numeral k q) t f h = (f u (omega arith) (omega arith) ∙ h.0, agree ps qs (suc u) q t (λ i a b. f i (omega arith) (omega arith)) h.1)
agree ps qs u (name o q) t f h = (f u (omega arith) (omega arith) ∙ h.0, agree ps qs (suc u) q t (λ i a b. f i (omega arith) (omega arith)) h.1)
agree ps qs u (sequence b q) t f h = (
  f u (omega arith) (omega arith) ∙ h.0,
  agree ps qs (suc u) b 0 (λ i l m. f i (omega arith) (omega arith)) h.1,
  agree ps qs (suc (u + commands b)) q t (λ i l m. f i (omega arith) (omega arith)) h.2,
)

-- two layouts, one after the other

link_join : (u v : ℕ) (q x : Code) (t : ℕ) → v ≡ u + commands q → link v x t ≡ v → link u q v ≡ link u (append q x) t
link_join u v end x t e l = let w : v ≡ u = omega arith in subst (λ (n : ℕ). v ≡ link n x t) w (sym l)
link_join u v (numeral k q) x t e l = refl
link_join u v (name o q) x t e l = refl
link_join u v (sequence b q) x t e l = refl

pub join : (ps : List Place) (u v : ℕ) (c x : Code) (t : ℕ) → v ≡ u + commands c → link v x t ≡ v → Laid ps u c v → Laid ps v x t → Laid ps u (append c x) t
join ps u v end x t e l h g = let w : v ≡ u = omega arith in subst (λ (n : ℕ). Laid ps n x t) w g
join ps u v (numeral k q) x t e l h g = (h.0 ∙ ap (place (Numeral k)) (link_join (suc u) v q x t (omega arith) l), join ps (suc u) v q x t (omega arith) l h.1 g)
join ps u v (name o q) x t e l h g = (h.0 ∙ ap (place (Name o)) (link_join (suc u) v q x t (omega arith) l), join ps (suc u) v q x t (omega arith) l h.1 g)
join ps u v (sequence b q) x t e l h g = (
  h.0 ∙ ap (place (Sequence (link (suc u) b 0))) (link_join (suc (u + commands b)) v q x t (omega arith) l),
  h.1,
  join ps (suc (u + commands b)) v q x t (omega arith) l h.2 g,
)

-- the last place, and its link

pub last_out : (h u : ℕ) (c : Code) → h < u → (last_place h u c ≡ h) ⊎ ((u ≤ last_place h u c) × (last_place h u c < u + commands c))
last_out h u end l = inl refl
last_out h u (numeral k q) l = inr (⊎_elim (λ e. (omega arith, omega arith)) (λ b. (omega arith, omega arith)) (last_out u (suc u) q (omega arith)))
last_out h u (name o q) l = inr (⊎_elim (λ e. (omega arith, omega arith)) (λ b. (omega arith, omega arith)) (last_out u (suc u) q (omega arith)))
last_out h u (sequence b q) l = inr (⊎_elim (λ e. (omega arith, omega arith)) (λ b. (omega arith, omega arith)) (last_out u (suc (u + commands b)) q (omega arith)))

-- where the place that is linked is another
pub other : (ps : List Place) (i j v : ℕ) → j ≢ i → at (relink ps i v) j ≡ at ps j
other ps i j v n = get_or-set_other ps i j (place (at ps i).command v) vacant n

relinked : (ps : List Place) (u w : ℕ) (q : Code) (t : ℕ) (c : Command) → u < w → u < length ps → at ps u ≡ place c (link w q 0) → at (relink ps (last_place u w q) t) u ≡ place c (link w q t)
relinked ps u w end t c l m e = get_or-set_same ps u (place (at ps u).command t) vacant m ∙ ap (λ (p : Place). place p.command t) e
relinked ps u w (numeral k q) t c l m e = other ps (last_place u w (numeral k q)) u t (λ x. ⊎_elim (λ f. omega arith) (λ b. omega arith) (last_out w (suc w) q (omega arith))) ∙ e
relinked ps u w (name o q) t c l m e = other ps (last_place u w (name o q)) u t (λ x. ⊎_elim (λ f. omega arith) (λ b. omega arith) (last_out w (suc w) q (omega arith))) ∙ e
relinked ps u w (sequence d q) t c l m e = other ps (last_place u w (sequence d q)) u t (λ x. ⊎_elim (λ f. omega arith) (λ b. omega arith) (last_out w (suc (w + commands d)) q (omega arith))) ∙ e

pub retarget : (ps : List Place) (h u : ℕ) (c : Code) (t : ℕ) → h < u → u + commands c ≤ length ps → Laid ps u c 0 → Laid (relink ps (last_place h u c) t) u c t
retarget ps h u end t l m g = tt
retarget ps h u (numeral k q) t l m g = (relinked ps u (suc u) q t (Numeral k) (omega arith) (omega arith) g.0, retarget ps u (suc u) q t (omega arith) (omega arith) g.1)
retarget ps h u (name o q) t l m g = (relinked ps u (suc u) q t (Name o) (omega arith) (omega arith) g.0, retarget ps u (suc u) q t (omega arith) (omega arith) g.1)
retarget ps h u (sequence b q) t l m g = (
  relinked ps u (suc (u + commands b)) q t (Sequence (link (suc u) b 0)) (omega arith) (omega arith) g.0,
  agree ps (relink ps (last_place u (suc (u + commands b)) q) t) (suc u) b 0
      (λ i x y. other ps (last_place u (suc (u + commands b)) q) i t (λ z. ⊎_elim (λ f. omega arith) (λ f. omega arith) (last_out u (suc (u + commands b)) q (omega arith))))
      g.1,
  retarget ps u (suc (u + commands b)) q t (omega arith) (omega arith) g.2,
)

pub last_push : (h u v : ℕ) (c x : Code) → v ≡ u + commands c → ((g : ℕ) → last_place g v x ≡ v) → last_place h u (append c x) ≡ v
last_push h u v end x e f = let w : v ≡ u = omega arith in subst (λ (n : ℕ). last_place h n x ≡ v) w (f h)
last_push h u v (numeral k q) x e f = last_push u (suc u) v q x (omega arith) f
last_push h u v (name o q) x e f = last_push u (suc u) v q x (omega arith) f
last_push h u v (sequence b q) x e f = last_push u (suc (u + commands b)) v q x (omega arith) f

-- what a layout spells

pub on_link : (u w : ℕ) (q : Code) (t : ℕ) → u < w → (t ≡ 0) ⊎ (u < t) → on u (link w q t) ≡ true
on_link u w end t l s = ⊎_elim (λ e. subst (λ (n : ℕ). on u n ≡ true) (sym e) refl) (λ m. on_lt u t m) s
on_link u w (numeral k q) t l s = on_lt u w l
on_link u w (name o q) t l s = on_lt u w l
on_link u w (sequence b q) t l s = on_lt u w l

weaken : (n m t : ℕ) → m ≤ n → (t ≡ 0) ⊎ (n ≤ t) → (t ≡ 0) ⊎ (m ≤ t)
weaken n m t l s = ⊎_elim (λ e. inl e) (λ e. inr (omega arith)) s

pub spelled : (ps : List Place) (u : ℕ) (c : Code) (t : ℕ) → 0 < u → u + commands c ≤ length ps → (t ≡ 0) ⊎ (length ps ≤ t) → Laid ps u c t → chain ps (link u c t) ≡ c
spelled ps u end t h l s g = ⊎_elim (λ e. ap (chain ps) e) (λ m. past ps t m) s
spelled ps u (numeral k q) t h l s g =
    step ps u (place (Numeral k) (link (suc u) q t)) h (omega arith) g.0 refl (on_link u (suc u) q t (omega arith) (weaken (length ps) (suc u) t (omega arith) s))
    ∙ ap (λ r. numeral k r) (spelled ps (suc u) q t (omega arith) (omega arith) s g.1)
spelled ps u (name o q) t h l s g =
    step ps u (place (Name o) (link (suc u) q t)) h (omega arith) g.0 refl (on_link u (suc u) q t (omega arith) (weaken (length ps) (suc u) t (omega arith) s))
    ∙ ap (λ r. name o r) (spelled ps (suc u) q t (omega arith) (omega arith) s g.1)
spelled ps u (sequence b q) t h l s g =
    step ps u (place (Sequence (link (suc u) b 0)) (link (suc (u + commands b)) q t)) h (omega arith) g.0
    (on_link u (suc u) b 0 (omega arith) (inl refl))
    (on_link u (suc (u + commands b)) q t (omega arith) (weaken (length ps) (suc u) t (omega arith) s))
    ∙ ap (λ r. sequence r (chain ps (link (suc (u + commands b)) q t))) (spelled ps (suc u) b 0 (omega arith) (omega arith) (inl refl) g.1)
    ∙ ap (λ r. sequence b r) (spelled ps (suc (u + commands b)) q t (omega arith) (omega arith) s g.2)

begun : (ps : List Place) (u : ℕ) (c : Code) (t : ℕ) → 0 < u → length ps ≡ u + commands c → (t ≡ 0) ⊎ (length ps ≤ t) → Laid ps u c t → chain ps u ≡ c
begun ps u end t h l s g = past ps u (omega arith)
begun ps u (numeral k q) t h l s g = spelled ps u (numeral k q) t h (omega arith) s g
begun ps u (name o q) t h l s g = spelled ps u (name o q) t h (omega arith) s g
begun ps u (sequence b q) t h l s g = spelled ps u (sequence b q) t h (omega arith) s g

-- the same of the first n places
pub begun_in : (ps : List Place) (n u : ℕ) (c : Code) (t : ℕ) → 0 < u → n ≡ u + commands c → n ≤ length ps → (t ≡ 0) ⊎ (n ≤ t) → Laid ps u c t → chain (take n ps) u ≡ c
begun_in ps n u c t h e l s g =
    let m : length (take n ps) ≡ n = length-take-le n ps l in
    begun (take n ps) u c t h (m ∙ e) (weaken n (length (take n ps)) t (omega arith) s)
    (agree ps (take n ps) u c t (λ i a b. get_or-take n ps i vacant (omega arith)) g)

-- a layout's links, as the test has them
pub lies-from : (ps : List Place) (u : ℕ) (c : Code) (t : ℕ) → Laid ps u c t → lies ps u c t ≡ true
unfolding lies
lies-from ps u end t g = refl
lies-from ps u (numeral k q) t g = and_from (eqb (at ps u).next (link (suc u) q t)) (lies ps (suc u) q t) (eq-eqb _ _ (ap (λ (p : Place). p.next) g.0)) (lies-from ps (suc u) q t g.1)
lies-from ps u (name o q) t g = and_from (eqb (at ps u).next (link (suc u) q t)) (lies ps (suc u) q t) (eq-eqb _ _ (ap (λ (p : Place). p.next) g.0)) (lies-from ps (suc u) q t g.1)
lies-from ps u (sequence b q) t g =
    and_from (holds (at ps u).command (link (suc u) b 0)) _ (ap (λ (p : Place). holds p.command (link (suc u) b 0)) g.0 ∙ eq-eqb (link (suc u) b 0) _ refl)
    (and_from (eqb (at ps u).next (link (suc (u + commands b)) q t)) (lies ps (suc u) b 0 && lies ps (suc (u + commands b)) q t) (eq-eqb _ _ (ap (λ (p : Place). p.next) g.0))
    (and_from (lies ps (suc u) b 0) (lies ps (suc (u + commands b)) q t) (lies-from ps (suc u) b 0 g.1) (lies-from ps (suc (u + commands b)) q t g.2)))

-- and back: a chain that a table spells and whose links are those of a layout is laid out

in_numeral : (f : ℕ → Code) (c : Command) (n : Code) (k : ℤ) (q : Code) → command_then f c n ≡ numeral k q → (c ≡ Numeral k) × (n ≡ q)
in_numeral f (Numeral j) n k q e = (cc, cc)
in_numeral f (Name o) n k q e = (cc, cc)
in_numeral f (Sequence v) n k q e = (cc, cc)

in_name : (f : ℕ → Code) (c : Command) (n : Code) (o : CommandName) (q : Code) → command_then f c n ≡ name o q → (c ≡ Name o) × (n ≡ q)
in_name f (Numeral j) n o q e = (cc, cc)
in_name f (Name p) n o q e = (cc, cc)
in_name f (Sequence v) n o q e = (cc, cc)

in_sequence : (f : ℕ → Code) (c : Command) (n b q : Code) (v : ℕ) → command_then f c n ≡ sequence b q → holds c v ≡ true → (c ≡ Sequence v) × (f v ≡ b) × (n ≡ q)
in_sequence f (Numeral j) n b q v e h = (cc, cc, cc)
in_sequence f (Name o) n b q v e h = (cc, cc, cc)
in_sequence f (Sequence w) n b q v e h =
    let x : w ≡ v = eqb-true w v h in
    let y : f w ≡ b = cc in
    (ap (λ (m : ℕ). Sequence m) x, ap f (sym x) ∙ y, cc)

placed_so : (p : Place) (c : Command) (n : ℕ) → p.command ≡ c → p.next ≡ n → p ≡ place c n
placed_so p c n a b = ap (λ (d : Command). place d p.next) a ∙ ap (place c) b

module _ (ps : List Place) (forth : forward 0 ps ≡ true) where
  goes : (u : ℕ) → 0 < u → u < length ps → chain ps u ≡ place_then u (chain ps) (at ps u)
  goes u l m = let f = forward-at 0 ps u u (omega arith) forth m in step ps u (at ps u) l m refl f.0 f.1

  pub laid_of : (u : ℕ) (c : Code) (t : ℕ) → 0 < u → u + commands c ≤ length ps → chain ps (link u c t) ≡ c → lies ps u c t ≡ true → Laid ps u c t
  unfolding lies
  laid_of u end t h m e l = tt
  laid_of u (numeral k q) t h m e l =
      let i = in_numeral (chain ps) (at ps u).command (chain ps (at ps u).next) k q (sym (goes u h (omega arith)) ∙ e) in
      let p = and_parts (eqb (at ps u).next (link (suc u) q t)) (lies ps (suc u) q t) l in
      let n = eqb-true _ _ p.0 in
      (placed_so (at ps u) (Numeral k) _ i.0 n, laid_of (suc u) q t (omega arith) (omega arith) (ap (chain ps) (sym n) ∙ i.1) p.1)
  laid_of u (name o q) t h m e l =
      let i = in_name (chain ps) (at ps u).command (chain ps (at ps u).next) o q (sym (goes u h (omega arith)) ∙ e) in
      let p = and_parts (eqb (at ps u).next (link (suc u) q t)) (lies ps (suc u) q t) l in
      let n = eqb-true _ _ p.0 in
      (placed_so (at ps u) (Name o) _ i.0 n, laid_of (suc u) q t (omega arith) (omega arith) (ap (chain ps) (sym n) ∙ i.1) p.1)
  laid_of u (sequence b q) t h m e l =
      let p = three (holds (at ps u).command (link (suc u) b 0)) (eqb (at ps u).next (link (suc (u + commands b)) q t)) (lies ps (suc u) b 0 && lies ps (suc (u + commands b)) q t) l in
      let r = and_parts (lies ps (suc u) b 0) (lies ps (suc (u + commands b)) q t) p.2 in
      let i = in_sequence (chain ps) (at ps u).command (chain ps (at ps u).next) b q (link (suc u) b 0) (sym (goes u h (omega arith)) ∙ e) p.0 in
      let n = eqb-true _ _ p.1 in (
        placed_so (at ps u) (Sequence (link (suc u) b 0)) _ i.0 n,
        laid_of (suc u) b 0 (omega arith) (omega arith) i.1 r.0,
        laid_of (suc (u + commands b)) q t (omega arith) (omega arith) (ap (chain ps) (sym n) ∙ i.2) r.1,
      )

-- the same of the first n places, from the chain's own beginning
begins : (ps : List Place) (u : ℕ) (c : Code) (t : ℕ) → 0 < u → u + commands c ≡ length ps → (t ≡ 0) ⊎ (length ps ≤ t) → chain ps u ≡ c → chain ps (link u c t) ≡ c
begins ps u end t h l s e = ⊎_elim (λ z. ap (chain ps) z) (λ m. past ps t m) s
begins ps u (numeral k q) t h l s e = e
begins ps u (name o q) t h l s e = e
begins ps u (sequence b q) t h l s e = e

pub laid_in : (ps : List Place) (n u t : ℕ) → forward 0 ps ≡ true → 0 < u → n ≤ length ps → n ≡ u + commands (chain (take n ps) u) → (t ≡ 0) ⊎ (n ≤ t) → lies (take n ps) u (chain (take n ps) u) t ≡ true → Laid ps u (chain (take n ps) u) t
laid_in ps n u t f h l e s g =
    let m : length (take n ps) ≡ n = length-take-le n ps l in
    agree (take n ps) ps u (chain (take n ps) u) t (λ i a b. sym (get_or-take n ps i vacant (omega arith)))
    (laid_of (take n ps) (forward-take 0 n ps f) u (chain (take n ps) u) t h (omega arith)
    (begins (take n ps) u (chain (take n ps) u) t h (omega arith) (weaken n (length (take n ps)) t (omega arith) s) refl) g)

-- the other way: what the first n places hold passes the test
pub lies_in : (ps : List Place) (n u : ℕ) (c : Code) (t : ℕ) → n ≡ u + commands c → n ≤ length ps → Laid ps u c t → lies (take n ps) u c t ≡ true
lies_in ps n u c t e l g =
    let m : length (take n ps) ≡ n = length-take-le n ps l in
    lies-from (take n ps) u c t (agree ps (take n ps) u c t (λ i a b. get_or-take n ps i vacant (omega arith)) g)

-- a walk over a layout passes its places in order, each once

counting_more : (u n m v : ℕ) → v ≡ u + n → counting u n ++ counting v m ≡ counting u (n + m)
counting_more u zero m v e = let q : v ≡ u = omega arith in let r : 0 + m ≡ m = omega arith in ap (λ (x : ℕ). counting x m) q ∙ ap (counting u) (sym r)
counting_more u (suc n) m v e = let r : suc n + m ≡ suc (n + m) = omega arith in ap (λ (l : List ℕ). u ∷ l) (counting_more (suc u) n m v (omega arith)) ∙ ap (counting u) (sym r)

pub visited : (ps : List Place) (u : ℕ) (c : Code) (later : List ℕ) → 0 < u → u + commands c ≤ length ps → Laid ps u c 0 → along no_more passed_at ps (link u c 0) later ≡ counting u (commands c) ++ later
visited ps u end later h l g = refl
visited ps u (numeral k q) later h l g =
    ap (λ (go : List ℕ → List ℕ). go later) (passes ps u (place (Numeral k) (link (suc u) q 0)) h (omega arith) g.0 refl (on_link u (suc u) q 0 (omega arith) (inl refl)))
    ∙ ap (λ (vs : List ℕ). u ∷ vs) (visited ps (suc u) q later (omega arith) (omega arith) g.1)
visited ps u (name o q) later h l g =
    ap (λ (go : List ℕ → List ℕ). go later) (passes ps u (place (Name o) (link (suc u) q 0)) h (omega arith) g.0 refl (on_link u (suc u) q 0 (omega arith) (inl refl)))
    ∙ ap (λ (vs : List ℕ). u ∷ vs) (visited ps (suc u) q later (omega arith) (omega arith) g.1)
visited ps u (sequence b q) later h l g =
    ap (λ (go : List ℕ → List ℕ). go later) (passes ps u (place (Sequence (link (suc u) b 0)) (link (suc (u + commands b)) q 0)) h (omega arith) g.0
    (on_link u (suc u) b 0 (omega arith) (inl refl)) (on_link u (suc (u + commands b)) q 0 (omega arith) (inl refl)))
    ∙ ap (λ (vs : List ℕ). u ∷ vs)
    (visited ps (suc u) b (along no_more passed_at ps (link (suc (u + commands b)) q 0) later) (omega arith) (omega arith) g.1
    ∙ ap (λ (vs : List ℕ). counting (suc u) (commands b) ++ vs) (visited ps (suc (u + commands b)) q later (omega arith) (omega arith) g.2)
    ∙ sym (append_assoc (counting (suc u) (commands b)) (counting (suc (u + commands b)) (commands q)) later)
    ∙ ap (λ (vs : List ℕ). vs ++ later) (counting_more (suc u) (commands b) (commands q) (suc (u + commands b)) (omega arith)))

-- two layouts of one chain have the same places
pub one_layout : (ps qs : List Place) (u : ℕ) (c : Code) (t : ℕ) → Laid ps u c t → Laid qs u c t → (i : ℕ) → u ≤ i → i < u + commands c → at ps i ≡ at qs i
one_layout ps qs u end t g h i l m = let z : ⊥ = omega arith in absurd z
one_layout ps qs u (numeral k q) t g h i l m = ⊎_elim (λ (e : i ≡ u). ap (at ps) e ∙ (g.0 ∙ sym h.0) ∙ ap (at qs) (sym e)) (λ n. one_layout ps qs (suc u) q t g.1 h.1 i (omega arith) (omega arith)) (cases_eq i u)
one_layout ps qs u (name o q) t g h i l m = ⊎_elim (λ (e : i ≡ u). ap (at ps) e ∙ (g.0 ∙ sym h.0) ∙ ap (at qs) (sym e)) (λ n. one_layout ps qs (suc u) q t g.1 h.1 i (omega arith) (omega arith)) (cases_eq i u)
one_layout ps qs u (sequence b q) t g h i l m =
    ⊎_elim (λ (e : i ≡ u). ap (at ps) e ∙ (g.0 ∙ sym h.0) ∙ ap (at qs) (sym e))
    (λ n. ⊎_elim (λ (x : i < suc (u + commands b)). one_layout ps qs (suc u) b 0 g.1 h.1 i (omega arith) (omega arith))
    (λ x. one_layout ps qs (suc (u + commands b)) q t g.2 h.2 i (omega arith) (omega arith))
    (cases_lt i (suc (u + commands b))))
    (cases_eq i u)
