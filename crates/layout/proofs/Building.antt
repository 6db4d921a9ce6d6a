-- Filling a table in the order of the text: what one command more, an opening and a closing bracket, and the end leave.
use Rattle.std.proofs.Common.{◌≡◌, ℕ, zero, suc, ◌+◌, ◌-◌, ◌<◌, ◌≤◌, true, ◌&&◌, eqb, leb, ◌≢◌, ◌⊎◌, List, [], ◌∷◌, length, take, set, replicate, ℤ, pos, sym, refl, ap, ◌∙◌, subst, inl, inr, ⊎_elim, arith}
use Rattle.std.proofs.lemmas.List.{get_or-set_same, get_or-set_other, length-set, length-replicate}
use Rattle.std.proofs.lemmas.Bool.{le-leb, leb-true, eq-eqb, eqb-true, and_from, and_parts}
use Rattle.arithmetic.specs.Numbers.{in_range}
use Rattle.syntax.specs.declared.Name.{Name as CommandName}
use Rattle.syntax.specs.Bounds.{most_commands, most_parameters}
use Rattle.syntax.specs.Code.{Code, end, numeral, name, sequence, append, commands, sequences}
use Rattle.syntax.specs.Events.{Draft, draft, commands_around, commands_so_far, sequences_so_far, depth}
use Rattle.syntax.proofs.Growing.{commands-append, sequences-append}
use Rattle.layout.specs.declared.Command.{Command}
use Rattle.layout.specs.declared.Command.TheVariants.{Numeral, Name, Sequence}
use Rattle.layout.specs.declared.Place.{Place}
use Rattle.layout.specs.declared.Table.{Table}
use Rattle.layout.specs.Tables.{table_places, place, vacant, at, chain, tree, counts, in_order, whole, on, ahead, forward, small, smalls, link, holds, lies}
use Rattle.layout.specs.Drafts.{begin, inner, outer, drafted, last_place, opened_at, framed, holds_draft, relink, placed}
use Rattle.layout.proofs.Chains.{on_lt, three, from_three, forward-at, forward-set, smalls-set, small_at}
use Rattle.layout.proofs.Layouts.{Laid, agree, join, last_out, other, retarget, last_push, on_link, spelled, begun_in, lies-from, laid_in, lies_in}

-- the chains around open brackets
abbrev pub Framed : List Place → List ℕ → List Code → Type 0
Framed ps [] [] = Unit {0}
Framed ps [] (c ∷ cs) = ⊥
Framed ps (o ∷ os) [] = ⊥
Framed ps (o ∷ os) (c ∷ cs) = (o ≡ begin os + commands c) × Laid ps (begin os) c o × (at ps o ≡ place (Sequence 0) 0) × Framed ps os cs

-- the places below `used` hold the draft of c and cs
pub record Fits (ps : List Place) (used last count : ℕ) (os : List ℕ) (c : Code) (cs : List Code) : Type 0 where
  pub long : length ps ≡ table_places
  pub room : used ≤ table_places
  pub used_so : used ≡ begin os + commands c
  pub tail : last ≡ last_place 0 (begin os) c
  pub counted : count ≡ sequences_so_far (draft c cs)
  pub laid : Laid ps (begin os) c 0
  pub frames : Framed ps os cs
  pub forth : forward 0 ps ≡ true
  pub numbers : smalls ps ≡ true

begin_pos : (os : List ℕ) → 0 < begin os
begin_pos [] = omega arith
begin_pos (o ∷ os) = omega arith

-- from the test to the layout

opened_so : (p : Place) → holds p.command 0 ≡ true → eqb p.next 0 ≡ true → p ≡ place (Sequence 0) 0
opened_so p h e = ap (λ (n : ℕ). place p.command n) (eqb-true _ 0 e) ∙ ap (λ (c : Command). place c 0) (command_so p.command h)
  where
    command_so : (c : Command) → holds c 0 ≡ true → c ≡ Sequence 0
    command_so (Numeral k) h = let z : ◌≡◌ {A = ℕ} 0 1 = cc in absurd (omega arith)
    command_so (Name o) h = let z : ◌≡◌ {A = ℕ} 0 1 = cc in absurd (omega arith)
    command_so (Sequence v) h = ap (λ (n : ℕ). Sequence n) (eqb-true v 0 h)

frames_of : (ps : List Place) (os : List ℕ) → forward 0 ps ≡ true → begin os ≤ length ps → framed ps os ≡ true → Framed ps os (outer ps os)
unfolding framed
frames_of ps [] f l h = tt
frames_of ps (o ∷ os) f l h =
    let a = and_parts (eqb o (begin os + commands (inner ps o os)) && lies (take o ps) (begin os) (inner ps o os) o) (opened_at ps o && framed ps os) h in
    let b = and_parts (eqb o (begin os + commands (inner ps o os))) (lies (take o ps) (begin os) (inner ps o os) o) a.0 in
    let c = and_parts (opened_at ps o) (framed ps os) a.1 in
    let d = and_parts (holds (at ps o).command 0) (eqb (at ps o).next 0) c.0 in
    let e : o ≡ begin os + commands (inner ps o os) = eqb-true _ _ b.0 in (
      e,
      laid_in ps o (begin os) o f (begin_pos os) (omega arith) e (inr (omega arith)) b.1,
      opened_so (at ps o) d.0 d.1,
      frames_of ps os f (omega arith) c.1,
    )

pub fits_of : (ps : List Place) (used last count : ℕ) (os : List ℕ) → holds_draft ps used last count os ≡ true → Fits ps used last count os (inner ps used os) (outer ps os)
unfolding holds_draft
fits_of ps used last count os h =
    let a = and_parts (eqb (length ps) table_places && (forward 0 ps && (smalls ps && leb used table_places))) _ h in
    let b = three (eqb (length ps) table_places) (forward 0 ps) (smalls ps && leb used table_places) a.0 in
    let c = and_parts (smalls ps) (leb used table_places) b.2 in
    let d = and_parts (eqb used (begin os + commands (inner ps used os)) && (eqb last (last_place 0 (begin os) (inner ps used os)) && eqb count (sequences_so_far (drafted ps used os)))) _ a.1 in
    let e = three (eqb used (begin os + commands (inner ps used os))) (eqb last (last_place 0 (begin os) (inner ps used os))) (eqb count (sequences_so_far (drafted ps used os))) d.0 in
    let g = and_parts (lies (take used ps) (begin os) (inner ps used os) 0) (framed ps os) d.1 in
    let long : length ps ≡ table_places = eqb-true _ _ b.0 in
    let room : used ≤ table_places = leb-true _ _ c.1 in
    let so : used ≡ begin os + commands (inner ps used os) = eqb-true _ _ e.0 in
    record {
      long = long;
      room = room;
      used_so = so;
      tail = eqb-true _ _ e.1;
      counted = eqb-true _ _ e.2;
      laid = laid_in ps used (begin os) 0 b.1 (begin_pos os) (omega arith) so (inl refl) g.0;
      frames = frames_of ps os b.1 (omega arith) g.1;
      forth = b.1;
      numbers = c.0;
    }

-- and back

outer_told : (ps : List Place) (os : List ℕ) (cs : List Code) → begin os ≤ length ps → Framed ps os cs → outer ps os ≡ cs
outer_told ps [] [] l f = refl
outer_told ps [] (c ∷ cs) l f = absurd f
outer_told ps (o ∷ os) [] l f = absurd f
outer_told ps (o ∷ os) (c ∷ cs) l f =
    let e : o ≡ begin os + commands c = f.0 in
    ap (λ (x : Code). x ∷ outer ps os) (begun_in ps o (begin os) c o (begin_pos os) e (omega arith) (inr (omega arith)) f.1)
    ∙ ap (λ (xs : List Code). c ∷ xs) (outer_told ps os cs (omega arith) f.3)

framed-from : (ps : List Place) (os : List ℕ) (cs : List Code) → begin os ≤ length ps → Framed ps os cs → framed ps os ≡ true
unfolding framed
framed-from ps [] [] l f = refl
framed-from ps [] (c ∷ cs) l f = absurd f
framed-from ps (o ∷ os) [] l f = absurd f
framed-from ps (o ∷ os) (c ∷ cs) l f =
    let e : o ≡ begin os + commands c = f.0 in
    let i : inner ps o os ≡ c = begun_in ps o (begin os) c o (begin_pos os) e (omega arith) (inr (omega arith)) f.1 in
    and_from _ (opened_at ps o && framed ps os)
    (and_from (eqb o (begin os + commands (inner ps o os))) _ (eq-eqb _ _ (e ∙ ap (λ (x : Code). begin os + commands x) (sym i)))
    (subst (λ (x : Code). lies (take o ps) (begin os) x o ≡ true) (sym i) (lies_in ps o (begin os) c o e (omega arith) f.1)))
    (and_from (opened_at ps o) (framed ps os)
    (and_from (holds (at ps o).command 0) (eqb (at ps o).next 0) (ap (λ (p : Place). holds p.command 0) f.2) (ap (λ (p : Place). eqb p.next 0) f.2))
    (framed-from ps os cs (omega arith) f.3))

-- a table whose places are known to hold a draft passes the test, and that draft is the one it spells
pub record Held (ps : List Place) (used last count : ℕ) (os : List ℕ) (d : Draft) : Type 0 where
  pub kept : holds_draft ps used last count os ≡ true
  pub told : drafted ps used os ≡ d

pub held-from : (ps : List Place) (used last count : ℕ) (os : List ℕ) (c : Code) (cs : List Code) → Fits ps used last count os c cs → Held ps used last count os (draft c cs)
unfolding holds_draft
held-from ps used last count os c cs f =
    let l = f.long in
    let r = f.room in
    let e = f.used_so in
    let i : inner ps used os ≡ c = begun_in ps used (begin os) c 0 (begin_pos os) e (omega arith) (inl refl) f.laid in
    let o : outer ps os ≡ cs = outer_told ps os cs (omega arith) f.frames in
    let d : drafted ps used os ≡ draft c cs = ap (λ (x : Code). draft x (outer ps os)) i ∙ ap (draft c) o in
    record {
      kept =
          and_from (eqb (length ps) table_places && (forward 0 ps && (smalls ps && leb used table_places))) _
          (from_three _ (forward 0 ps) (smalls ps && leb used table_places) (eq-eqb _ _ l) f.forth (and_from (smalls ps) _ f.numbers (le-leb _ _ r)))
          (and_from (eqb used (begin os + commands (inner ps used os)) && (eqb last (last_place 0 (begin os) (inner ps used os)) && eqb count (sequences_so_far (drafted ps used os)))) _
          (from_three _ _ _
          (eq-eqb _ _ (e ∙ ap (λ (x : Code). begin os + commands x) (sym i)))
          (eq-eqb _ _ (f.tail ∙ ap (last_place 0 (begin os)) (sym i)))
          (eq-eqb _ _ (f.counted ∙ ap sequences_so_far (sym d))))
          (and_from _ (framed ps os)
          (subst (λ (x : Code). lies (take used ps) (begin os) x 0 ≡ true) (sym i) (lies_in ps used (begin os) c 0 e (omega arith) f.laid))
          (framed-from ps os cs (omega arith) f.frames)));
      told = d;
    }

framed-agree : (ps qs : List Place) (os : List ℕ) (cs : List Code) → ((i : ℕ) → 0 < i → i < begin os → at qs i ≡ at ps i) → Framed ps os cs → Framed qs os cs
framed-agree ps qs [] [] a f = tt
framed-agree ps qs [] (c ∷ cs) a f = f
framed-agree ps qs (o ∷ os) [] a f = f
framed-agree ps qs (o ∷ os) (c ∷ cs) a f =
    let e : o ≡ begin os + commands c = f.0 in
    let b = begin_pos os in (
      e,
      agree ps qs (begin os) c o (λ i x y. a i (omega arith) (omega arith)) f.1,
      a o (omega arith) (omega arith) ∙ f.2,
      framed-agree ps qs os cs (λ i x y. a i (omega arith) (omega arith)) f.3,
    )

-- one more place, linked from the last

pub record Put (qs : List Place) (used : ℕ) (os : List ℕ) (c : Code) (cs : List Code) (d : Command) : Type 0 where
  pub long : length qs ≡ table_places
  pub less : used < table_places
  pub used_so : used ≡ begin os + commands c
  pub laid : Laid qs (begin os) c used
  pub new : at qs used ≡ place d 0
  pub frames : Framed qs os cs
  pub forth : forward 0 qs ≡ true
  pub numbers : smalls qs ≡ true

pub put : (ps : List Place) (used last count : ℕ) (os : List ℕ) (c : Code) (cs : List Code) (d : Command) → Fits ps used last count os c cs → used < table_places → ahead used d ≡ true → small d ≡ true → Put (placed ps last used d) used os c cs d
put ps used last count os c cs d f l a sm =
    let long = f.long in
    let so = f.used_so in
    let b = begin_pos os in
    let out : (last ≡ 0) ⊎ ((begin os ≤ last) × (last < used)) =
    ⊎_elim (λ e. inl (f.tail ∙ e)) (λ e. let t = f.tail in inr (omega arith, omega arith)) (last_out 0 (begin os) c b) in
    let less : last < used = ⊎_elim (λ e. omega arith) (λ e. omega arith) out in
    let n : length (relink ps last used) ≡ table_places = length-set ps last (place (at ps last).command used) ∙ long in
    let laid : Laid (relink ps last used) (begin os) c used =
    subst (λ (m : ℕ). Laid (relink ps m used) (begin os) c used) (sym f.tail) (retarget ps 0 (begin os) c used b (omega arith) f.laid) in
    let here = forward-at 0 ps last last (omega arith) f.forth (omega arith) in
    record {
      long = length-set (relink ps last used) used (place d 0) ∙ n;
      less = l;
      used_so = so;
      laid = agree (relink ps last used) (placed ps last used d) (begin os) c used (λ i x y. get_or-set_other (relink ps last used) used i (place d 0) vacant (λ z. omega arith)) laid;
      new = get_or-set_same (relink ps last used) used (place d 0) vacant (omega arith);
      frames = framed-agree ps (placed ps last used d) os cs
          (λ i x y. get_or-set_other (relink ps last used) used i (place d 0) vacant (λ z. omega arith)
          ∙ other ps last i used (λ z. ⊎_elim (λ e. omega arith) (λ e. omega arith) out))
          f.frames;
      forth = forward-set 0 (relink ps last used) used used (place d 0) (omega arith)
          (forward-set 0 ps last last (place (at ps last).command used) (omega arith) f.forth here.0 (on_lt last used less))
          a refl;
      numbers = smalls-set (relink ps last used) used (place d 0) (smalls-set ps last (place (at ps last).command used) f.numbers (small_at ps last f.numbers)) sm;
    }

-- a numeral or a name
pub push : (qs : List Place) (used count : ℕ) (os : List ℕ) (c : Code) (cs : List Code) (d : Command) (x : Code) → Put qs used os c cs d → count ≡ sequences_so_far (draft c cs) → sequences x ≡ 0 → commands x ≡ 1 → link used x 0 ≡ used → ((g : ℕ) → last_place g used x ≡ used) → Laid qs used x 0 → Fits qs (used + 1) used count os (append c x) cs
push qs used count os c cs d x p n none one l t h =
    let e = p.used_so in
    let m = p.less in
    record {
      long = p.long;
      room = omega arith;
      used_so = omega (arith, commands-append c x);
      counted = omega (arith, sequences-append c x);
      tail = sym (last_push 0 (begin os) used c x e t);
      laid = join qs (begin os) used c x 0 e l p.laid h;
      frames = p.frames;
      forth = p.forth;
      numbers = p.numbers;
    }

-- a bracket that opens
pub opened : (qs : List Place) (used count : ℕ) (os : List ℕ) (c : Code) (cs : List Code) → Put qs used os c cs (Sequence 0) → count ≡ sequences_so_far (draft c cs) → Fits qs (used + 1) 0 (count + 1) (used ∷ os) end (c ∷ cs)
opened qs used count os c cs p n =
    let e = p.used_so in
    let m = p.less in
    record {
      long = p.long;
      room = omega arith;
      used_so = omega arith;
      counted = omega arith;
      tail = refl;
      laid = tt;
      frames = (p.used_so, p.laid, p.new, p.frames);
      forth = p.forth;
      numbers = p.numbers;
    }

-- one that closes
pub shut : (ps : List Place) (used last count o : ℕ) (os : List ℕ) (c b : Code) (cs : List Code) (first : ℕ) → Fits ps used last count (o ∷ os) c (b ∷ cs) → first ≡ link (suc o) c 0 → Fits (set ps o (place (Sequence first) 0)) used o count os (append b (sequence c end)) cs
shut ps used last count o os c b cs first f e =
    let long = f.long in
    let room = f.room in
    let so = f.used_so in
    let n = f.counted in
    let at-o : o ≡ begin os + commands b = f.frames.0 in
    let pos = begin_pos os in
    let qs = set ps o (place (Sequence first) 0) in
    let away : (i : ℕ) → i ≢ o → at (set ps o (place (Sequence first) 0)) i ≡ at ps i = λ i n. get_or-set_other ps o i (place (Sequence first) 0) vacant n in
    let here : at (set ps o (place (Sequence first) 0)) o ≡ place (Sequence first) 0 = get_or-set_same ps o (place (Sequence first) 0) vacant (omega arith) in
    record {
      long = length-set ps o (place (Sequence first) 0) ∙ long;
      room = room;
      used_so = omega (arith, commands-append b (sequence c end));
      counted = omega (arith, sequences-append b (sequence c end));
      tail = sym (last_push 0 (begin os) o b (sequence c end) at-o (λ g. refl));
      laid = join (set ps o (place (Sequence first) 0)) (begin os) o b (sequence c end) 0 at-o refl
          (agree ps (set ps o (place (Sequence first) 0)) (begin os) b o (λ i x y. away i (λ z. omega arith)) f.frames.1) (
            here ∙ ap (λ (n : ℕ). place (Sequence n) 0) e,
            agree ps (set ps o (place (Sequence first) 0)) (suc o) c 0 (λ i x y. away i (λ z. omega arith)) f.laid,
            tt,
          );
      frames = framed-agree ps (set ps o (place (Sequence first) 0)) os cs (λ i x y. away i (λ z. omega arith)) f.frames.3;
      forth = forward-set 0 ps o o (place (Sequence first) 0) (omega arith) f.forth
          (subst (λ (n : ℕ). on o n ≡ true) (sym e) (on_link o (suc o) c 0 (omega arith) (inl refl))) refl;
      numbers = smalls-set ps o (place (Sequence first) 0) f.numbers refl;
    }

-- how many commands the draft has
around : (ps : List Place) (os : List ℕ) (cs : List Code) → Framed ps os cs → begin os ≡ suc (commands_around cs)
around ps [] [] f = refl
around ps [] (c ∷ cs) f = absurd f
around ps (o ∷ os) [] f = absurd f
around ps (o ∷ os) (c ∷ cs) f = omega (arith, f.0, around ps os cs f.3)

pub used_is : (ps : List Place) (used last count : ℕ) (os : List ℕ) → holds_draft ps used last count os ≡ true → used ≡ suc (commands_so_far (drafted ps used os))
used_is ps used last count os h = let f = fits_of ps used last count os h in let e = f.used_so in omega (arith, around ps os (outer ps os) f.frames)

pub used_in : (ps : List Place) (used last count : ℕ) (os : List ℕ) → holds_draft ps used last count os ≡ true → used ≤ table_places
used_in ps used last count os h = (fits_of ps used last count os h).room

pub last_in : (ps : List Place) (used last count : ℕ) (os : List ℕ) → holds_draft ps used last count os ≡ true → last < used
last_in ps used last count os h =
    let f = fits_of ps used last count os h in
    let e = f.used_so in
    let b = begin_pos os in
    let t = f.tail in
    ⊎_elim (λ x. omega arith) (λ x. omega arith) (last_out 0 (begin os) (inner ps used os) (omega arith))

pub counted_is : (ps : List Place) (used last count : ℕ) (os : List ℕ) → holds_draft ps used last count os ≡ true → count ≡ sequences_so_far (drafted ps used os)
counted_is ps used last count os h = (fits_of ps used last count os h).counted

pub depth_is : (ps : List Place) (used : ℕ) (os : List ℕ) → depth (drafted ps used os) ≡ length os
depth_is ps used [] = refl
depth_is ps used (o ∷ os) = ap suc (depth_is ps o os)

-- an open bracket stands below the unused places
pub open_in : (ps : List Place) (used last count o : ℕ) (os : List ℕ) → holds_draft ps used last count (o ∷ os) ≡ true → o < used
open_in ps used last count o os h = let f = fits_of ps used last count (o ∷ os) h in let e = f.used_so in omega arith

-- the first place of a chain that ends below v
pub first_is : (u v first : ℕ) (c : Code) → v ≡ u + commands c → (v ≡ u → first ≡ 0) → ((v ≡ u → ⊥) → first ≡ u) → first ≡ link u c 0
first_is u v first end e a b = a (omega arith)
first_is u v first (numeral k q) e a b = b (λ z. omega arith)
first_is u v first (name o q) e a b = b (λ z. omega arith)
first_is u v first (sequence d q) e a b = b (λ z. omega arith)

-- what is owed for each kind of event

module _ (ps : List Place) (used last count : ℕ) (os : List ℕ) (h : holds_draft ps used last count os ≡ true) where
  pub add_numeral : (k : ℤ) → used < table_places → in_range k ≡ true → Held (placed ps last used (Numeral k)) (used + 1) used count os (draft (append (inner ps used os) (numeral k end)) (outer ps os))
  add_numeral k l r =
      let f = fits_of ps used last count os h in
      let p = put ps used last count os (inner ps used os) (outer ps os) (Numeral k) f l refl r in
      held-from _ _ _ _ _ _ _ (push (placed ps last used (Numeral k)) used count os (inner ps used os) (outer ps os) (Numeral k) (numeral k end) p f.counted refl refl refl (λ g. refl) (p.new, tt))

  pub add_name : (o : CommandName) → used < table_places → Held (placed ps last used (Name o)) (used + 1) used count os (draft (append (inner ps used os) (name o end)) (outer ps os))
  add_name o l =
      let f = fits_of ps used last count os h in
      let p = put ps used last count os (inner ps used os) (outer ps os) (Name o) f l refl refl in
      held-from _ _ _ _ _ _ _ (push (placed ps last used (Name o)) used count os (inner ps used os) (outer ps os) (Name o) (name o end) p f.counted refl refl refl (λ g. refl) (p.new, tt))

  pub add_open : used < table_places → Held (placed ps last used (Sequence 0)) (used + 1) 0 (count + 1) (used ∷ os) (draft end (inner ps used os ∷ outer ps os))
  add_open l =
      let f = fits_of ps used last count os h in
      held-from _ _ _ _ _ _ _ (opened (placed ps last used (Sequence 0)) used count os (inner ps used os) (outer ps os) (put ps used last count os (inner ps used os) (outer ps os) (Sequence 0) f l refl refl) f.counted)

pub add-close : (ps : List Place) (used last count o : ℕ) (os : List ℕ) (first : ℕ) → holds_draft ps used last count (o ∷ os) ≡ true → (used ≡ suc o → first ≡ 0) → ((used ≡ suc o → ⊥) → first ≡ suc o)
    → Held (set ps o (place (Sequence first) 0)) used o count os (draft (append (inner ps o os) (sequence (inner ps used (o ∷ os)) end)) (outer ps os))
add-close ps used last count o os first h a b =
    let f = fits_of ps used last count (o ∷ os) h in
    held-from _ _ _ _ _ _ _ (shut ps used last count o os (inner ps used (o ∷ os)) (inner ps o os) (outer ps os) first f (first_is (suc o) used first _ f.used_so a b))

-- the end: the head is linked to the first command

pub whole_from : (t : Table) (c : Code) → tree t ≡ c → length t.places ≡ table_places → forward 0 t.places ≡ true → smalls t.places ≡ true
    → t.commands ≡ commands c → t.sequences ≡ sequences c → commands c ≤ most_commands → t.parameters ≤ most_parameters
    → (at t.places 0).next ≡ link 1 c 0 → Laid t.places 1 c 0 → whole t ≡ true
unfolding whole counts in_order
whole_from t c e long forth numbers n s few k head laid =
    and_from _ _
    (from_three (eqb (length t.places) table_places) (forward 0 t.places) (smalls t.places) (eq-eqb _ _ long) forth numbers)
    (and_from _ _
    (and_from (eqb t.commands (commands (tree t))) _ (eq-eqb _ _ (n ∙ ap commands (sym e)))
    (from_three (eqb t.sequences (sequences (tree t))) (leb (commands (tree t)) most_commands) (leb t.parameters most_parameters)
    (eq-eqb _ _ (s ∙ ap sequences (sym e)))
    (subst (λ (x : Code). leb (commands x) most_commands ≡ true) (sym e) (le-leb _ _ few))
    (le-leb _ _ k)))
    (and_from (eqb (at t.places 0).next (link 1 (tree t) 0)) (lies t.places 1 (tree t) 0)
    (eq-eqb _ _ (head ∙ ap (λ (x : Code). link 1 x 0) (sym e)))
    (subst (λ (x : Code). lies t.places 1 x 0 ≡ true) (sym e) (lies-from t.places 1 c 0 laid))))

pub tree-from : (t : Table) (c : Code) → length t.places ≡ table_places → commands c ≤ most_commands → (at t.places 0).next ≡ link 1 c 0 → Laid t.places 1 c 0 → tree t ≡ c
unfolding tree
tree-from t c long few head laid = ap (chain t.places) head ∙ spelled t.places 1 c 0 (omega arith) (omega arith) (inl refl) laid

pub finish : (ps : List Place) (used last count first : ℕ) (t : Table) → holds_draft ps used last count [] ≡ true → (used ≡ 1 → first ≡ 0) → ((used ≡ 1 → ⊥) → first ≡ 1)
    → t.places ≡ set ps 0 (place (Numeral (pos 0)) first) → t.commands ≡ used - 1 → t.sequences ≡ count → t.parameters ≤ most_parameters
    → (tree t ≡ inner ps used []) × (whole t ≡ true)
finish ps used last count first t h a b same n s m =
    let f = fits_of ps used last count [] h in
    let long = f.long in
    let room = f.room in
    let so = f.used_so in
    let many = f.counted in
    let e : first ≡ link 1 (inner ps used []) 0 = first_is 1 used first (inner ps used []) so a b in
    let head : (at t.places 0).next ≡ link 1 (inner ps used []) 0 =
    ap (λ (qs : List Place). (at qs 0).next) same ∙ ap (λ (p : Place). p.next) (get_or-set_same ps 0 (place (Numeral (pos 0)) first) vacant (omega arith)) ∙ e in
    let wide : length t.places ≡ table_places = ap length same ∙ length-set ps 0 (place (Numeral (pos 0)) first) ∙ long in
    let laid : Laid t.places 1 (inner ps used []) 0 =
    subst (λ (qs : List Place). Laid qs 1 (inner ps used []) 0) (sym same)
    (agree ps (set ps 0 (place (Numeral (pos 0)) first)) 1 (inner ps used []) 0 (λ i x y. get_or-set_other ps 0 i (place (Numeral (pos 0)) first) vacant (λ z. omega arith)) f.laid) in
    let few : commands (inner ps used []) ≤ most_commands = omega arith in
    let tr = tree-from t (inner ps used []) wide few head laid in (
      tr,
      whole_from t (inner ps used []) tr wide
          (subst (λ (qs : List Place). forward 0 qs ≡ true) (sym same)
          (forward-set 0 ps 0 0 (place (Numeral (pos 0)) first) (omega arith) f.forth refl (subst (λ (v : ℕ). on 0 v ≡ true) (sym e) (on_link 0 1 (inner ps used []) 0 (omega arith) (inl refl)))))
          (subst (λ (qs : List Place). smalls qs ≡ true) (sym same) (smalls-set ps 0 (place (Numeral (pos 0)) first) f.numbers refl))
          (omega arith) (omega arith) few m head laid,
    )

-- an unused table

forward-vacant : (b n : ℕ) → forward b (replicate n vacant) ≡ true
unfolding forward
forward-vacant b zero = refl
forward-vacant b (suc n) = forward-vacant (suc b) n

smalls-vacant : (n : ℕ) → smalls (replicate n vacant) ≡ true
unfolding smalls
smalls-vacant zero = refl
smalls-vacant (suc n) = smalls-vacant n

pub fresh : Held (replicate table_places vacant) 1 0 0 [] (draft end [])
fresh = held-from _ _ _ _ _ _ _ (record { long = length-replicate table_places vacant; room = omega arith; used_so = refl; tail = refl; counted = refl; laid = tt; frames = tt; forth = forward-vacant 0 table_places; numbers = smalls-vacant table_places })
