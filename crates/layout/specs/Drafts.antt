-- A table that is being filled in the order of the text, and the draft that it holds.
use Rattle.std.specs.Prelude.{ℕ, suc, ◌+◌, Bool, true, ◌&&◌, List, [], ◌∷◌, length, take, ◌==◌, nat_le, slice_set}
use Rattle.layout.specs.declared.Command.{Command}
use Rattle.layout.specs.declared.Place.{Place}
use Rattle.syntax.specs.Code.{Code, end, numeral, name, sequence, commands}
use Rattle.syntax.specs.Events.{Draft, draft, sequences_so_far}
use Rattle.layout.specs.Tables.{table_places, place, at, chain, forward, smalls, holds, lies}

-- where the innermost chain begins, by the places of the open brackets, the innermost first
abbrev pub begin : List ℕ → ℕ
begin [] = 1
begin (o ∷ os) = suc o

-- the innermost chain, of the first n places
abbrev pub inner : List Place → ℕ → List ℕ → Code
inner ps n os = chain (take n ps) (begin os)

-- the chains around it, each up to its open bracket
abbrev pub outer : List Place → List ℕ → List Code
outer ps [] = []
outer ps (o ∷ os) = inner ps o os ∷ outer ps os

-- the draft that the places below `used` hold
abbrev pub drafted : List Place → ℕ → List ℕ → Draft
drafted ps used os = draft (inner ps used os) (outer ps os)

-- the last place of a chain that is laid out from place u on, or h where it is empty
abbrev pub last_place : ℕ → ℕ → Code → ℕ
last_place h u end = h
last_place h u (numeral k q) = last_place u (suc u) q
last_place h u (name o q) = last_place u (suc u) q
last_place h u (sequence b q) = last_place u (suc (u + commands b)) q

-- a bracket that is open at place o: its sequence is empty so far, and ends its chain
abbrev pub opened_at : List Place → ℕ → Bool
opened_at ps o = holds (at ps o).command 0 && (at ps o).next == 0

-- each chain around lies in order, up to its open bracket
unfoldable pub framed : List Place → List ℕ → Bool
framed ps [] = true
framed ps (o ∷ os) =
    (o == begin os + commands (inner ps o os) && lies (take o ps) (begin os) (inner ps o os) o) && (opened_at ps o && framed ps os)

-- the places below `used` hold a draft in order: `last` ends its innermost chain, and `count` of its commands are sequences
unfoldable pub holds_draft : List Place → ℕ → ℕ → ℕ → List ℕ → Bool
holds_draft ps used last count os =
    (length ps == table_places && (forward 0 ps && (smalls ps && nat_le used table_places)))
    && ((used == begin os + commands (inner ps used os) && (last == last_place 0 (begin os) (inner ps used os) && count == sequences_so_far (drafted ps used os)))
    && (lies (take used ps) (begin os) (inner ps used os) 0 && framed ps os))

-- place i linked to v
abbrev pub relink : List Place → ℕ → ℕ → List Place
relink ps i v = slice_set ps i (place (at ps i).command v)

-- one more place, linked from the last
abbrev pub placed : List Place → ℕ → ℕ → Command → List Place
placed ps last used c = slice_set (relink ps last used) used (place c 0)
