-- What a whole table has: its parts, its layout, and how a walk goes on in it.
use Rattle.std.proofs.Common.{◌≡◌, ℕ, zero, suc, ◌<◌, ◌≤◌, true, ◌&&◌, ◌||◌, eqb, leb, ◌⊎◌, List, [], ◌∷◌, length, ℤ, Some, None, Option, sym, refl, ap, ◌∙◌, subst, inl, inr, ⊎_elim, append-nil, arith}
use Rattle.std.proofs.lemmas.Bool.{and_parts, eqb-true, eqb-false, leb-true, leb-false, or_cases, or_parts, cond_both}
use Rattle.syntax.specs.declared.Name.{Name as CommandName}
use Rattle.syntax.specs.declared.Event.TheVariants.{Numeral as NumeralEvent, Name as NameEvent, Open}
use Rattle.syntax.specs.Bounds.{most_commands, most_parameters}
use Rattle.syntax.specs.Code.{Code, end, commands, sequences, Bounded}
use Rattle.syntax.specs.Events.{onto}
use Rattle.layout.specs.declared.Command.{Command}
use Rattle.layout.specs.declared.Command.TheVariants.{Numeral, Name, Sequence}
use Rattle.layout.specs.declared.Place.{Place}
use Rattle.layout.specs.declared.Table.{Table}
use Rattle.layout.specs.Tables.{table_places, at, along, chain, command_then, tree, source_of, passed_at, no_more, reached, counting, counts, in_order, whole, forward, smalls, link, lies}
use Rattle.layout.specs.Walking.{place_at, opened, after, left_of}
use Rattle.layout.proofs.Chains.{past, step, three, forward-at, ranged-chain}
use Rattle.layout.proofs.Layouts.{Laid, laid_of, visited, one_layout}

pub record Parts (t : Table) : Type 0 where
  pub long : length t.places ≡ table_places
  pub forth : forward 0 t.places ≡ true
  pub numbers : smalls t.places ≡ true
  pub commands_so : t.commands ≡ commands (tree t)
  pub sequences_so : t.sequences ≡ sequences (tree t)
  pub few : commands (tree t) ≤ most_commands
  pub parameters : t.parameters ≤ most_parameters
  pub head : (at t.places 0).next ≡ link 1 (tree t) 0
  pub links : lies t.places 1 (tree t) 0 ≡ true

pub parts_of : (t : Table) → whole t ≡ true → Parts t
unfolding whole counts in_order
parts_of t h =
    let a = and_parts (eqb (length t.places) table_places && (forward 0 t.places && smalls t.places)) _ h in
    let b = three (eqb (length t.places) table_places) (forward 0 t.places) (smalls t.places) a.0 in
    let c = and_parts (eqb t.commands (commands (tree t)) && (eqb t.sequences (sequences (tree t)) && (leb (commands (tree t)) most_commands && leb t.parameters most_parameters))) _ a.1 in
    let d = three (eqb t.commands (commands (tree t))) (eqb t.sequences (sequences (tree t))) (leb (commands (tree t)) most_commands && leb t.parameters most_parameters) c.0 in
    let e = and_parts (leb (commands (tree t)) most_commands) (leb t.parameters most_parameters) d.2 in
    let f = and_parts (eqb (at t.places 0).next (link 1 (tree t) 0)) (lies t.places 1 (tree t) 0) c.1 in
    record {
      long = eqb-true _ _ b.0;
      forth = b.1;
      numbers = b.2;
      commands_so = eqb-true _ _ d.0;
      sequences_so = eqb-true _ _ d.1;
      few = leb-true _ _ e.0;
      parameters = leb-true _ _ e.1;
      head = eqb-true _ _ f.0;
      links = f.1;
    }

-- its commands lie at the places 1, 2, 3 and so on
pub laid_out : (t : Table) → whole t ≡ true → Laid t.places 1 (tree t) 0
unfolding tree
laid_out t w =
    let p = parts_of t w in
    let long = p.long in
    let few = p.few in
    laid_of t.places p.forth 1 (tree t) 0 (omega arith) (omega arith) (ap (chain t.places) (sym p.head)) p.links

pub bounded : (t : Table) → whole t ≡ true → Bounded (source_of t)
unfolding tree
bounded t w = let p = parts_of t w in record { parameters = p.parameters; commands = p.few; numerals = ranged-chain t.places (at t.places 0).next p.numbers }

-- a walk from the head passes each used place just once
pub reached_once : (t : Table) → whole t ≡ true → reached t ≡ counting 1 (commands (tree t))
reached_once t w =
    let p = parts_of t w in
    let long = p.long in
    let few = p.few in
    ap (λ (v : ℕ). along no_more passed_at t.places v []) p.head ∙ visited t.places 1 (tree t) [] (omega arith) (omega arith) (laid_out t w) ∙ append-nil (counting 1 (commands (tree t)))

-- two whole tables with one tree have the same commands at the same places
pub same_places : (s t : Table) → whole s ≡ true → whole t ≡ true → tree s ≡ tree t → (i : ℕ) → 1 ≤ i → i ≤ commands (tree s) → at s.places i ≡ at t.places i
same_places s t v w e i l m =
    one_layout s.places t.places 1 (tree s) 0 (laid_out s v) (subst (λ (c : Code). Laid t.places 1 c 0) (sym e) (laid_out t w)) i l (omega arith)

-- where a walk goes on

goes : (t : Table) (u : ℕ) (c : Command) → whole t ≡ true → 0 < u → u < table_places → (at t.places u).command ≡ c → chain t.places u ≡ command_then (chain t.places) c (chain t.places (at t.places u).next)
goes t u c h l m e =
    let p = parts_of t h in
    let n = p.long in
    let f = forward-at 0 t.places u u (omega arith) p.forth (omega arith) in
    step t.places u (at t.places u) l (omega arith) refl f.0 f.1
    ∙ ap (λ (d : Command). command_then (chain t.places) d (chain t.places (at t.places u).next)) e

-- a link that leads to no place ends its chain
ends_at : (t : Table) (v : ℕ) → whole t ≡ true → None ≡ place_at t.places v → chain t.places v ≡ end
ends_at t v w e = ends v (stops v e)
  where
    long : length t.places ≡ table_places
    long = (parts_of t w).long

    stops : (v : ℕ) → None ≡ place_at t.places v → (v ≡ 0) ⊎ (table_places ≤ v)
    stops v = cond_both (eqb v 0 || leb table_places v) None (Some (at t.places v)) (λ (o : Option Place). None ≡ o → (v ≡ 0) ⊎ (table_places ≤ v))
        (λ y z. ⊎_elim (λ x. inl (eqb-true v 0 x)) (λ x. inr (leb-true table_places v x)) (or_cases (eqb v 0) (leb table_places v) y)) (λ y z. let no : ◌≡◌ {A = ℕ} 0 1 = cc in absurd (omega arith))

    ends : (v : ℕ) → (v ≡ 0) ⊎ (table_places ≤ v) → chain t.places v ≡ end
    ends v s = ⊎_elim (λ x. ap (chain t.places) x) (λ x. past t.places v (omega (arith, long))) s

-- and one that leads to a place leads to one of the table
pub at_place : (ps : List Place) (v : ℕ) (p : Place) → Some p ≡ place_at ps v → (0 < v) × (v < table_places) × (p ≡ at ps v)
at_place ps v p = cond_both (eqb v 0 || leb table_places v) None (Some (at ps v)) (λ (o : Option Place). Some p ≡ o → (0 < v) × (v < table_places) × (p ≡ at ps v))
    (λ y z. let no : ◌≡◌ {A = ℕ} 0 1 = cc in absurd (omega arith))
    (λ y z. let parts = or_parts (eqb v 0) (leb table_places v) y in let n = eqb-false v 0 parts.0 in let m = leb-false table_places v parts.1 in (positive v n, m, cc))
  where
    positive : (v : ℕ) → (v ≡ 0 → ⊥) → 0 < v
    positive zero n = absurd (n refl)
    positive (suc v) n = omega arith

-- the chain from a link on is the one that its place begins
pub opens : (t : Table) (v : ℕ) (o : Option Place) → whole t ≡ true → o ≡ place_at t.places v → chain t.places v ≡ opened t.places o
opens t v None w e = ends_at t v w e
opens t v (Some p) w e =
    let f = at_place t.places v p e in
    goes t v (at t.places v).command w f.0 f.1 refl ∙ ap (λ (q : Place). command_then (chain t.places) q.command (chain t.places q.next)) (sym f.2)
