-- The chain from a place on, the places that it passes, and links that lead on.
use Rattle.std.proofs.Common.{◌≡◌, ℕ, zero, suc, ◌+◌, ◌<◌, ◌≤◌, Bool, true, ◌&&◌, eqb, List, [], ◌∷◌, length, take, set, refl, ap, ◌∙◌, subst, arith}
use Rattle.std.proofs.lemmas.Bool.{lt-ltb, and_from, and_parts, cond_both}
use Rattle.layout.specs.declared.Command.{Command}
use Rattle.layout.specs.declared.Command.TheVariants.{Numeral, Name, Sequence}
use Rattle.layout.specs.declared.Place.{Place}
use Rattle.syntax.specs.Code.{Code, end, sequence, Ranged}
use Rattle.layout.specs.Tables.{place, at, walk, along, command_then, place_then, chain, passed_at, no_more, on, ahead, forward, small, smalls}
use Rattle.layout.proofs.Walks as walks

pub past : (ps : List Place) (v : ℕ) → length ps ≤ v → chain ps v ≡ end
past ps v h = walks.past end place_then ps v h

command-same : (f g : ℕ → Code) (u : ℕ) (c : Command) (q : Code) → ((v : ℕ) → on u v ≡ true → f v ≡ g v) → ahead u c ≡ true → command_then f c q ≡ command_then g c q
command-same f g u (Numeral k) q e h = refl
command-same f g u (Name o) q e h = refl
command-same f g u (Sequence v) q e h = ap (λ b. sequence b q) (e v h)

place_same : (b : ℕ) (f g : ℕ → Code) (p : Place) → ((v : ℕ) → on b v ≡ true → f v ≡ g v) → ahead b p.command ≡ true → on b p.next ≡ true → place_then b f p ≡ place_then b g p
place_same b f g p e a o = command-same f g b p.command (f p.next) e a ∙ ap (command_then g p.command) (e p.next o)

-- a chain goes on by its first place's links, where these lead on
pub step : (ps : List Place) (u : ℕ) (p : Place) → 0 < u → u < length ps → at ps u ≡ p → ahead u p.command ≡ true → on u p.next ≡ true → chain ps u ≡ place_then u (chain ps) p
step ps u p h l e a o = walks.step end place_then place_same ps u p h l e a o

pub on_lt : (u v : ℕ) → u < v → on u v ≡ true
on_lt u zero h = refl
on_lt u (suc v) h = lt-ltb u (suc v) h

pub three : (x y z : Bool) → (x && (y && z)) ≡ true → (x ≡ true) × (y ≡ true) × (z ≡ true)
three x y z e = let a = and_parts x (y && z) e in let b = and_parts y z a.1 in (a.0, b.0, b.1)

pub from_three : (x y z : Bool) → x ≡ true → y ≡ true → z ≡ true → (x && (y && z)) ≡ true
from_three x y z a b c = and_from x (y && z) a (and_from y z b c)

pub forward-at : (b : ℕ) (ps : List Place) (n v : ℕ) → v ≡ b + n → forward b ps ≡ true → n < length ps → (ahead v (at ps n).command ≡ true) × (on v (at ps n).next ≡ true)
unfolding forward
forward-at b [] n v e f h = let z : ⊥ = omega arith in absurd z
forward-at b (p ∷ ps) zero v e f h =
    let q : b ≡ v = omega arith in
    let a = three (ahead b p.command) (on b p.next) (forward (suc b) ps) f in
    (subst (λ (m : ℕ). ahead m p.command ≡ true) q a.0, subst (λ (m : ℕ). on m p.next ≡ true) q a.1)
forward-at b (p ∷ ps) (suc n) v e f h =
    forward-at (suc b) ps n v (omega arith) (three (ahead b p.command) (on b p.next) (forward (suc b) ps) f).2 (omega arith)

pub forward-set : (b : ℕ) (ps : List Place) (n v : ℕ) (x : Place) → v ≡ b + n → forward b ps ≡ true → ahead v x.command ≡ true → on v x.next ≡ true → forward b (set ps n x) ≡ true
unfolding forward
forward-set b [] n v x e f a o = refl
forward-set b (p ∷ ps) zero v x e f a o =
    let q : v ≡ b = omega arith in
    let r = three (ahead b p.command) (on b p.next) (forward (suc b) ps) f in
    from_three (ahead b x.command) (on b x.next) (forward (suc b) ps) (subst (λ (m : ℕ). ahead m x.command ≡ true) q a) (subst (λ (m : ℕ). on m x.next ≡ true) q o) r.2
forward-set b (p ∷ ps) (suc n) v x e f a o =
    let r = three (ahead b p.command) (on b p.next) (forward (suc b) ps) f in
    from_three (ahead b p.command) (on b p.next) (forward (suc b) (set ps n x)) r.0 r.1 (forward-set (suc b) ps n v x (omega arith) r.2 a o)

pub forward-take : (b n : ℕ) (ps : List Place) → forward b ps ≡ true → forward b (take n ps) ≡ true
unfolding forward
forward-take b zero ps f = refl
forward-take b (suc n) [] f = refl
forward-take b (suc n) (p ∷ ps) f =
    let r = three (ahead b p.command) (on b p.next) (forward (suc b) ps) f in
    from_three (ahead b p.command) (on b p.next) (forward (suc b) (take n ps)) r.0 r.1 (forward-take (suc b) n ps r.2)

-- numerals

pub smalls-set : (ps : List Place) (n : ℕ) (x : Place) → smalls ps ≡ true → small x.command ≡ true → smalls (set ps n x) ≡ true
unfolding smalls
smalls-set [] n x f a = refl
smalls-set (p ∷ ps) zero x f a = and_from (small x.command) (smalls ps) a (and_parts (small p.command) (smalls ps) f).1
smalls-set (p ∷ ps) (suc n) x f a = let r = and_parts (small p.command) (smalls ps) f in and_from (small p.command) (smalls (set ps n x)) r.0 (smalls-set ps n x r.1 a)

pub small_at : (ps : List Place) (n : ℕ) → smalls ps ≡ true → small (at ps n).command ≡ true
unfolding smalls
small_at [] n f = refl
small_at (p ∷ ps) zero f = (and_parts (small p.command) (smalls ps) f).0
small_at (p ∷ ps) (suc n) f = small_at ps n (and_parts (small p.command) (smalls ps) f).1

ranged-then : (go : ℕ → Code) (c : Command) (q : Code) → small c ≡ true → ((v : ℕ) → Ranged (go v)) → Ranged q → Ranged (command_then go c q)
ranged-then go (Numeral k) q s r h = (s, h)
ranged-then go (Name o) q s r h = h
ranged-then go (Sequence f) q s r h = (r f, h)

ranged-walk : (b : ℕ) (ps : List Place) (v : ℕ) → smalls ps ≡ true → Ranged (walk end place_then b ps v)
unfolding walk smalls
ranged-walk b [] v s = tt
ranged-walk b (p ∷ ps) v s =
    let r = and_parts (small p.command) (smalls ps) s in
    cond_both (eqb v b) (place_then b (walk end place_then (suc b) ps) p) (walk end place_then (suc b) ps v) Ranged
    (λ e. ranged-then (walk end place_then (suc b) ps) p.command _ r.0 (λ w. ranged-walk (suc b) ps w r.1) (ranged-walk (suc b) ps p.next r.1))
    (λ e. ranged-walk (suc b) ps v r.1)

-- a chain has numbers of the language for numerals, where the places have
pub ranged-chain : (ps : List Place) (v : ℕ) → smalls ps ≡ true → Ranged (chain ps v)
ranged-chain ps zero s = tt
ranged-chain ps (suc v) s = ranged-walk 0 ps (suc v) s

at_same : (b : ℕ) (f g : ℕ → List ℕ → List ℕ) (c : Command) (n : ℕ) → ((v : ℕ) → on b v ≡ true → f v ≡ g v) → ahead b c ≡ true → on b n ≡ true → passed_at b f (place c n) ≡ passed_at b g (place c n)
at_same b f g (Numeral k) n e a o = ap (λ (go : List ℕ → List ℕ). λ later. b ∷ go later) (e n o)
at_same b f g (Name k) n e a o = ap (λ (go : List ℕ → List ℕ). λ later. b ∷ go later) (e n o)
at_same b f g (Sequence v) n e a o =
    ap (λ (go : List ℕ → List ℕ). λ later. b ∷ go (f n later)) (e v a) ∙ ap (λ (go : List ℕ → List ℕ). λ later. b ∷ g v (go later)) (e n o)

-- a walk passes a place, then what is inside its command, then what comes after
pub passes : (ps : List Place) (u : ℕ) (p : Place) → 0 < u → u < length ps → at ps u ≡ p → ahead u p.command ≡ true → on u p.next ≡ true → along no_more passed_at ps u ≡ passed_at u (along no_more passed_at ps) p
passes ps u p h l e a o = walks.step no_more passed_at (λ b f g q same x y. at_same b f g q.command q.next same x y) ps u p h l e a o
