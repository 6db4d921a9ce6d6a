-- What a builder owes for each event, over its parts.
use Rattle.std.proofs.Common.{◌≡◌, ℕ, suc, ◌+◌, ◌-◌, ◌<◌, ◌≤◌, Bool, true, false, ltb, List, [], ◌∷◌, length, set, replicate, ℤ, pos, Some, None, Ok, Err, Result, sym, refl, ap, ◌∙◌, subst, arith}
use Rattle.std.proofs.lemmas.Bool.{lt-ltb, le-ltb, le-leb, lt-leb, ltb-true, ltb-false, cond-true, cond-false}
use Rattle.codes.specs.declared.Refusal.{Refusal}
use Rattle.codes.specs.declared.Refusal.TheVariants.{Space, Crowd, Bracket}
use Rattle.stack.specs.Held.{held, room}
use Rattle.stack.specs.Items.{head_of, tail_of}
use Rattle.syntax.specs.Bounds.{most_commands}
use Rattle.syntax.specs.declared.Event.{Event}
use Rattle.syntax.specs.declared.Name.{Name as CommandName}
use Rattle.syntax.specs.declared.Event.TheVariants.{Numeral as NumeralEvent, Name as NameEvent, Open, Close}
use Rattle.syntax.specs.Code.{Code, end, numeral, name as name_then, sequence, append, source}
use Rattle.syntax.specs.Events.{Draft, draft, commands_so_far, blank, admit, feed, finished}
use Rattle.layout.specs.declared.Place.{Place}
use Rattle.layout.specs.declared.Table.{Table}
use Rattle.layout.specs.Tables.{table_places, place, vacant, tree, source_of, whole}
use Rattle.arithmetic.specs.Numbers.{in_range}
use Rattle.layout.specs.declared.Command.{Command}
use Rattle.layout.specs.declared.Command.TheVariants.{Numeral, Name, Sequence}
use Rattle.layout.specs.Drafts.{inner, outer, drafted, holds_draft, placed}
use Rattle.syntax.proofs.Growing.{sequences_so_far_le}
use Rattle.layout.proofs.Building.{Held, used_is, used_in, counted_is, depth_is, last_in, open_in, add_numeral, add_name, add_open, add-close, finish, fresh}
use Rattle.program.specs.declared.builder.Builder.{Builder}
use Rattle.program.specs.Building.{plain, event_of, working, refusal_of, lacks, within, offered, answer, draft_after, Took, completed}

-- an event that leads on, with memory enough
leads_on : (e : Event) (d f : Draft) (n : ℕ) → feed e d ≡ Some f → lacks e d n ≡ false → offered e d n ≡ Ok f
leads_on e d f n h l = ap (within e d n) h ∙ cond-false (lacks e d n) (Err Space) (Ok f) l

-- an event that leads on, with memory short
lacks_space : (e : Event) (d f : Draft) (n : ℕ) → feed e d ≡ Some f → lacks e d n ≡ true → offered e d n ≡ Err Space
lacks_space e d f n h l = ap (within e d n) h ∙ cond-true (lacks e d n) (Err Space) (Ok f) l

-- an event that leads nowhere
leads_nowhere : (e : Event) (d : Draft) (n : ℕ) → feed e d ≡ None → offered e d n ≡ Err (refusal_of e)
leads_nowhere e d n h = ap (within e d n) h

-- all but the draft stays
pub record Stays (b d : Builder) : Type 0 where
  pub rooms : room d.opens.now ≡ room b.opens.now
  pub arities : d.arity ≡ b.arity
  pub names : d.opens.ghost_name ≡ b.opens.ghost_name
  pub memories : d.opens.now.places.ghost_name ≡ b.opens.now.places.ghost_name

pub unmoved : (b : Builder) → Stays b b
unmoved b = record { rooms = refl; arities = refl; names = refl; memories = refl }

took : (e : Event) (b d : Builder) (f : Draft) → Stays b d → offered e (working b) (room b.opens.now) ≡ Ok f → working d ≡ f → Took e b d (Ok tt)
took e b d f s h w = record {
  answers = ap answer (sym h);
  holds = w ∙ ap (λ (x : Result Draft Refusal). draft_after x (working b)) (sym h);
  room = s.rooms;
  arity = s.arities;
  same = s.names;
  places = s.memories;
}

refused : (e : Event) (b d : Builder) (r : Refusal) → Stays b d → offered e (working b) (room b.opens.now) ≡ Err r → working d ≡ working b → Took e b d (Err r)
refused e b d r s h w = record {
  answers = ap answer (sym h);
  holds = w ∙ ap (λ (x : Result Draft Refusal). draft_after x (working b)) (sym h);
  room = s.rooms;
  arity = s.arities;
  same = s.names;
  places = s.memories;
}

-- there is room for one more command, or not
module _ (b : Builder) where
  used_so : b.used ≡ suc (commands_so_far (working b))
  used_so = used_is b.places b.used b.last b.sequences (held b.opens.now) b.sound

  admitted : (d : Draft) → b.used < table_places → admit (commands_so_far (working b)) d ≡ Some d
  admitted d l = cond-true (ltb (commands_so_far (working b)) most_commands) (Some d) None (lt-ltb _ most_commands (omega (arith, used_so)))

  full : (d : Draft) → table_places ≤ b.used → admit (commands_so_far (working b)) d ≡ None
  full d l = cond-false (ltb (commands_so_far (working b)) most_commands) (Some d) None (le-ltb _ most_commands (omega (arith, used_so)))

  -- whether an opening bracket finds a place in lent memory
  has_place : (r : Bool) → r ≡ ltb (length (held b.opens.now)) (room b.opens.now) → r ≡ true → lacks Open (working b) (room b.opens.now) ≡ false
  has_place r e t = lt-leb _ _ (omega (arith, ltb-true _ _ (sym e ∙ t), depth_is b.places b.used (held b.opens.now)))

  no_place : (r : Bool) → r ≡ ltb (length (held b.opens.now)) (room b.opens.now) → r ≡ false → lacks Open (working b) (room b.opens.now) ≡ true
  no_place r e t = le-leb _ _ (omega (arith, ltb-false _ _ (sym e ∙ t), depth_is b.places b.used (held b.opens.now)))

-- there are fewer sequences than places in use
pub sequences_in : (b : Builder) → (b.sequences < b.used) × (b.used ≤ table_places)
sequences_in b =
    let s = counted_is b.places b.used b.last b.sequences (held b.opens.now) b.sound in
    let u = used_in b.places b.used b.last b.sequences (held b.opens.now) b.sound in
    (omega (arith, used_so b, sequences_so_far_le (working b)), u)

-- a numeral

last_below : (b : Builder) → b.last < b.used
last_below b = last_in b.places b.used b.last b.sequences (held b.opens.now) b.sound

-- the last place of the innermost chain, and the next unused one, are places of the table
pub both_in : (b : Builder) → b.used < table_places → (b.last < table_places) × (b.used < table_places)
both_in b l = (omega (arith, last_below b), l)

module _ (b : Builder) (k : ℤ) where
  numeral_kept : (qs : List Place) → qs ≡ placed b.places b.last b.used (Numeral k) → b.used < table_places → in_range k ≡ true
      → Held qs (b.used + 1) b.used b.sequences (held b.opens.now) (draft (append (inner b.places b.used (held b.opens.now)) (numeral k end)) (outer b.places (held b.opens.now)))
  numeral_kept qs same l r =
      subst (λ (x : List Place). Held x (b.used + 1) b.used b.sequences (held b.opens.now) (draft (append (inner b.places b.used (held b.opens.now)) (numeral k end)) (outer b.places (held b.opens.now))))
      (sym same) (add_numeral b.places b.used b.last b.sequences (held b.opens.now) b.sound k l r)

  numeral_taken : (d : Builder) → Stays b d → b.used < table_places → working d ≡ draft (append (inner b.places b.used (held b.opens.now)) (numeral k end)) (outer b.places (held b.opens.now)) → Took (NumeralEvent k) b d (Ok tt)
  numeral_taken d s l w = took (NumeralEvent k) b d (draft (append (inner b.places b.used (held b.opens.now)) (numeral k end)) (outer b.places (held b.opens.now))) s
      (leads_on (NumeralEvent k) (working b) (draft (append (inner b.places b.used (held b.opens.now)) (numeral k end)) (outer b.places (held b.opens.now))) (room b.opens.now) (admitted b _ l) refl) w

  numeral_refused : table_places ≤ b.used → Took (NumeralEvent k) b b (Err Crowd)
  numeral_refused l = refused (NumeralEvent k) b b Crowd (unmoved b) (leads_nowhere (NumeralEvent k) (working b) (room b.opens.now) (full b (draft (append (inner b.places b.used (held b.opens.now)) (numeral k end)) (outer b.places (held b.opens.now))) l)) refl

-- a name

module _ (b : Builder) (o : CommandName) where
  name_kept : (qs : List Place) → qs ≡ placed b.places b.last b.used (Name o) → b.used < table_places
      → Held qs (b.used + 1) b.used b.sequences (held b.opens.now) (draft (append (inner b.places b.used (held b.opens.now)) (name_then o end)) (outer b.places (held b.opens.now)))
  name_kept qs same l =
      subst (λ (x : List Place). Held x (b.used + 1) b.used b.sequences (held b.opens.now) (draft (append (inner b.places b.used (held b.opens.now)) (name_then o end)) (outer b.places (held b.opens.now))))
      (sym same) (add_name b.places b.used b.last b.sequences (held b.opens.now) b.sound o l)

  name_taken : (d : Builder) → Stays b d → b.used < table_places → working d ≡ draft (append (inner b.places b.used (held b.opens.now)) (name_then o end)) (outer b.places (held b.opens.now)) → Took (NameEvent o) b d (Ok tt)
  name_taken d s l w = took (NameEvent o) b d (draft (append (inner b.places b.used (held b.opens.now)) (name_then o end)) (outer b.places (held b.opens.now))) s
      (leads_on (NameEvent o) (working b) (draft (append (inner b.places b.used (held b.opens.now)) (name_then o end)) (outer b.places (held b.opens.now))) (room b.opens.now) (admitted b _ l) refl) w

  name_refused : table_places ≤ b.used → Took (NameEvent o) b b (Err Crowd)
  name_refused l = refused (NameEvent o) b b Crowd (unmoved b) (leads_nowhere (NameEvent o) (working b) (room b.opens.now) (full b (draft (append (inner b.places b.used (held b.opens.now)) (name_then o end)) (outer b.places (held b.opens.now))) l)) refl

-- either

abbrev pub grown : Builder → Command → Draft
grown b (Numeral k) = draft (append (inner b.places b.used (held b.opens.now)) (numeral k end)) (outer b.places (held b.opens.now))
grown b (Name o) = draft (append (inner b.places b.used (held b.opens.now)) (name_then o end)) (outer b.places (held b.opens.now))
grown b (Sequence f) = working b

no_sequence : {A : Type 0} → false ≡ true → A
no_sequence e = let z : ◌≡◌ {A = ℕ} 0 1 = cc in absurd (omega arith)

pub plain_kept : (b : Builder) (c : Command) (qs : List Place) → plain c ≡ true → qs ≡ placed b.places b.last b.used c → b.used < table_places → Held qs (b.used + 1) b.used b.sequences (held b.opens.now) (grown b c)
plain_kept b (Numeral k) qs p same l = numeral_kept b k qs same l p
plain_kept b (Name o) qs p same l = name_kept b o qs same l
plain_kept b (Sequence f) qs p same l = no_sequence p

pub plain-taken : (b d : Builder) (c : Command) → plain c ≡ true → Stays b d → b.used < table_places → working d ≡ grown b c → Took (event_of c) b d (Ok tt)
plain-taken b d (Numeral k) p s l w = numeral_taken b k d s l w
plain-taken b d (Name o) p s l w = name_taken b o d s l w
plain-taken b d (Sequence f) p s l w = no_sequence p

pub plain-refused : (b : Builder) (c : Command) → plain c ≡ true → table_places ≤ b.used → Took (event_of c) b b (Err Crowd)
plain-refused b (Numeral k) p l = numeral_refused b k l
plain-refused b (Name o) p l = name_refused b o l
plain-refused b (Sequence f) p l = no_sequence p

-- a bracket that opens

module _ (b : Builder) where
  pub open_kept : (qs : List Place) (os : List ℕ) → qs ≡ placed b.places b.last b.used (Sequence 0) → os ≡ b.used ∷ held b.opens.now → b.used < table_places
      → Held qs (b.used + 1) 0 (b.sequences + 1) os (draft end (inner b.places b.used (held b.opens.now) ∷ outer b.places (held b.opens.now)))
  open_kept qs os same over l =
      subst (λ (x : List Place). Held x (b.used + 1) 0 (b.sequences + 1) os (draft end (inner b.places b.used (held b.opens.now) ∷ outer b.places (held b.opens.now)))) (sym same)
      (subst (λ (x : List ℕ). Held (placed b.places b.last b.used (Sequence 0)) (b.used + 1) 0 (b.sequences + 1) x (draft end (inner b.places b.used (held b.opens.now) ∷ outer b.places (held b.opens.now)))) (sym over)
      (add_open b.places b.used b.last b.sequences (held b.opens.now) b.sound l))

  leads_in : b.used < table_places → feed Open (working b) ≡ Some (draft end (inner b.places b.used (held b.opens.now) ∷ outer b.places (held b.opens.now)))
  leads_in l = admitted b _ l

  pub open_taken : (d : Builder) (r : Bool) → Stays b d → b.used < table_places → r ≡ ltb (length (held b.opens.now)) (room b.opens.now) → r ≡ true
      → working d ≡ draft end (inner b.places b.used (held b.opens.now) ∷ outer b.places (held b.opens.now)) → Took Open b d (Ok tt)
  open_taken d r s l e t w = took Open b d _ s (leads_on Open (working b) _ (room b.opens.now) (leads_in l) (has_place b r e t)) w

  pub open_short : (d : Builder) (r : Bool) → Stays b d → b.used < table_places → r ≡ ltb (length (held b.opens.now)) (room b.opens.now) → r ≡ false → working d ≡ working b → Took Open b d (Err Space)
  open_short d r s l e t w = refused Open b d Space s (lacks_space Open (working b) _ (room b.opens.now) (leads_in l) (no_place b r e t)) w

  pub open_refused : table_places ≤ b.used → Took Open b b (Err Crowd)
  open_refused l = refused Open b b Crowd (unmoved b) (leads_nowhere Open (working b) (room b.opens.now) (full b (draft end (inner b.places b.used (held b.opens.now) ∷ outer b.places (held b.opens.now))) l)) refl

-- one that closes

pub cons_of : {A : Type 0} (xs : List A) (x : A) → Some x ≡ head_of xs → xs ≡ x ∷ tail_of xs
cons_of [] x e = cc
cons_of (y ∷ ys) x e = cc

module _ (b : Builder) (o : ℕ) (os : List ℕ) (top : held b.opens.now ≡ o ∷ os) where
  under : holds_draft b.places b.used b.last b.sequences (o ∷ os) ≡ true
  under = subst (λ (x : List ℕ). holds_draft b.places b.used b.last b.sequences x ≡ true) top b.sound

  pub close_in : o < b.used
  close_in = open_in b.places b.used b.last b.sequences o os under

  pub close_kept : (first : ℕ) (rest : List ℕ) → rest ≡ os → (b.used ≡ o + 1 → first ≡ 0) → ((b.used ≡ o + 1 → ⊥) → first ≡ o + 1)
      → Held (set b.places o (place (Sequence first) 0)) b.used o b.sequences rest (draft (append (inner b.places o os) (sequence (inner b.places b.used (o ∷ os)) end)) (outer b.places os))
  close_kept first rest same x y =
      subst (λ (z : List ℕ). Held (set b.places o (place (Sequence first) 0)) b.used o b.sequences z (draft (append (inner b.places o os) (sequence (inner b.places b.used (o ∷ os)) end)) (outer b.places os))) (sym same)
      (add-close b.places b.used b.last b.sequences o os first under (λ h. x (omega arith)) (λ h. let e = y (λ z. h (omega arith)) in omega arith))

  closes : feed Close (working b) ≡ Some (draft (append (inner b.places o os) (sequence (inner b.places b.used (o ∷ os)) end)) (outer b.places os))
  closes = ap (λ (x : List ℕ). feed Close (drafted b.places b.used x)) top

  pub close_taken : (d : Builder) → Stays b d → working d ≡ draft (append (inner b.places o os) (sequence (inner b.places b.used (o ∷ os)) end)) (outer b.places os) → Took Close b d (Ok tt)
  close_taken d s w = took Close b d _ s (leads_on Close (working b) _ (room b.opens.now) closes refl) w

-- the end

pub used_pos : (b : Builder) → 1 ≤ b.used
used_pos b = omega (arith, used_so b)

none_open : (xs : List ℕ) → length xs ≤ 0 → xs ≡ []
none_open [] l = refl
none_open (x ∷ xs) l = let z : ⊥ = omega arith in absurd z

pub record Finished (b : Builder) (t : Table) : Type 0 where
  pub kept : whole t ≡ true
  pub built : Some (source_of t) ≡ completed b.arity.count (finished (working b))

pub finishes : (b : Builder) (first : ℕ) (t : Table) → length (held b.opens.now) ≤ 0 → (b.used ≡ 1 → first ≡ 0) → ((b.used ≡ 1 → ⊥) → first ≡ 1)
    → t.places ≡ set b.places 0 (place (Numeral (pos 0)) first) → t.commands ≡ b.used - 1 → t.sequences ≡ b.sequences → t.parameters ≡ b.arity.count → Finished b t
finishes b first t l x y places n s k =
    let none = none_open (held b.opens.now) l in
    let h : holds_draft b.places b.used b.last b.sequences [] ≡ true = subst (λ (os : List ℕ). holds_draft b.places b.used b.last b.sequences os ≡ true) none b.sound in
    let few = b.arity.few in
    let r = finish b.places b.used b.last b.sequences first t h x y places n s (omega arith) in
    record {
      kept = r.1;
      built =
          ap (λ (m : ℕ). Some (source m (tree t))) k ∙ ap (λ (c : Code). Some (source b.arity.count c)) r.0
          ∙ ap (λ (os : List ℕ). completed b.arity.count (finished (drafted b.places b.used os))) (sym none);
    }

-- the beginning

pub fresh_kept : (os : List ℕ) → os ≡ [] → Held (replicate table_places vacant) 1 0 0 os blank
fresh_kept os e = subst (λ (x : List ℕ). Held (replicate table_places vacant) 1 0 0 x blank) (sym e) fresh

pub empty_table : (t : Table) → t.places ≡ replicate table_places vacant → t.commands ≡ 0 → t.sequences ≡ 0 → t.parameters ≡ 0 → (tree t ≡ end) × (whole t ≡ true)
empty_table t p n s k =
    let r = finish (replicate table_places vacant) 1 0 0 0 t fresh.kept (λ h. refl) (λ h. absurd (h refl)) p n s (omega arith) in
    let e : inner (replicate table_places vacant) 1 [] ≡ end = let f = fresh.told in cc in
    (r.0 ∙ e, r.1)
