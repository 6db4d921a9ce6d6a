-- The program that a table of places stands for, and which tables are whole.
use Rattle.std.specs.Prelude.{ℕ, zero, suc, ◌+◌, Bool, true, false, cond, ◌&&◌, List, [], ◌∷◌, length, pos, ◌==◌, nat_le, nat_lt, slice_index_or}
use Rattle.arithmetic.specs.Numbers.{in_range}
use Rattle.layout.specs.declared.Command.{Command}
use Rattle.layout.specs.declared.Command.TheVariants.{Numeral, Name, Sequence}
use Rattle.layout.specs.declared.Place.{Place}
use Rattle.layout.specs.declared.Table.{Table}
use Rattle.syntax.specs.Bounds.{most_commands, most_parameters}
use Rattle.syntax.specs.Code.{Code, end, numeral, name, sequence, commands, sequences, Source, source}

-- the head, and a place for each command
abbrev pub table_places : ℕ
table_places = suc most_commands

abbrev pub place : Command → ℕ → Place
place c n = record { command = c; next = n }

-- what a place holds before it is used
abbrev pub vacant : Place
vacant = place (Numeral (pos 0)) 0

abbrev pub at : List Place → ℕ → Place
at ps i = slice_index_or ps i vacant

-- What a walk along the links gives: it begins at place v, `pass` says what it does at a place and how it goes on from
-- there by links, and `stop` is what a chain's end gives. The places are those from b on, and a link to none of them ends
-- a chain.
unfoldable pub walk : {R : Type 0} → R → (ℕ → (ℕ → R) → Place → R) → ℕ → List Place → ℕ → R
walk stop pass b [] v = stop
walk stop pass b (p ∷ ps) v = cond (v == b) (pass b (walk stop pass (suc b) ps) p) (walk stop pass (suc b) ps v)

-- the same from place v of a whole table; 0 ends a chain
abbrev pub along : {R : Type 0} → R → (ℕ → (ℕ → R) → Place → R) → List Place → ℕ → R
along stop pass ps zero = stop
along stop pass ps (suc v) = walk stop pass 0 ps (suc v)

-- a command before a chain, where `go` gives the chain that a link leads to
abbrev pub command_then : (ℕ → Code) → Command → Code → Code
command_then go (Numeral k) q = numeral k q
command_then go (Name o) q = name o q
command_then go (Sequence first) q = sequence (go first) q

abbrev pub place_then : ℕ → (ℕ → Code) → Place → Code
place_then b go p = command_then go p.command (go p.next)

-- the chain from place v on
abbrev pub chain : List Place → ℕ → Code
chain ps v = along end place_then ps v

-- the tree that a table stands for: the chain from the head's link on
unfoldable pub tree : Table → Code
tree t = chain t.places (at t.places 0).next

-- the program that a table stands for
abbrev pub source_of : Table → Source
source_of t = source t.parameters (tree t)

-- a link leads on from place b, or ends a chain
abbrev pub on : ℕ → ℕ → Bool
on b zero = true
on b (suc v) = nat_lt b (suc v)

abbrev pub ahead : ℕ → Command → Bool
ahead b (Numeral k) = true
ahead b (Name o) = true
ahead b (Sequence first) = on b first

-- every link leads on, so every chain ends
unfoldable pub forward : ℕ → List Place → Bool
forward b [] = true
forward b (p ∷ ps) = ahead b p.command && (on b p.next && forward (suc b) ps)

abbrev pub small : Command → Bool
small (Numeral k) = in_range k
small (Name o) = true
small (Sequence first) = true

-- every numeral is a number of the language
unfoldable pub smalls : List Place → Bool
smalls [] = true
smalls (p ∷ ps) = small p.command && smalls ps

-- where a chain begins that is laid out from place u on in the order of its text; t follows where it is empty
abbrev pub link : ℕ → Code → ℕ → ℕ
link u end t = t
link u (numeral k q) t = u
link u (name o q) t = u
link u (sequence b q) t = u

abbrev pub holds : Command → ℕ → Bool
holds (Numeral k) v = false
holds (Name o) v = false
holds (Sequence first) v = first == v

-- the links of a chain are those of a layout from place u on, in the order of its text, that t follows
unfoldable pub lies : List Place → ℕ → Code → ℕ → Bool
lies ps u end t = true
lies ps u (numeral k q) t = (at ps u).next == link (suc u) q t && lies ps (suc u) q t
lies ps u (name o q) t = (at ps u).next == link (suc u) q t && lies ps (suc u) q t
lies ps u (sequence b q) t =
    holds (at ps u).command (link (suc u) b 0)
    && ((at ps u).next == link (suc (u + commands b)) q t && (lies ps (suc u) b 0 && lies ps (suc (u + commands b)) q t))

-- the table's own counts are those of its tree, within the bounds
unfoldable pub counts : Table → Bool
counts t =
    (t.commands == commands (tree t))
    && (t.sequences == sequences (tree t) && (nat_le (commands (tree t)) most_commands && nat_le t.parameters most_parameters))

-- the commands lie at the places 1, 2, 3 and so on in the order of the text, and the head links to the first
unfoldable pub in_order : Table → Bool
in_order t = (at t.places 0).next == link 1 (tree t) 0 && lies t.places 1 (tree t) 0

-- one whole tree: every link leads on, the commands lie in the order of the text, and the counts are right
unfoldable pub whole : Table → Bool
whole t = (length t.places == table_places && (forward 0 t.places && smalls t.places)) && (counts t && in_order t)

-- what a walk passes inside a command, before what it passes later
abbrev pub passed_inside : (ℕ → List ℕ → List ℕ) → Command → List ℕ → List ℕ
passed_inside go (Numeral k) later = later
passed_inside go (Name o) later = later
passed_inside go (Sequence first) later = go first later

abbrev pub passed_at : ℕ → (ℕ → List ℕ → List ℕ) → Place → List ℕ → List ℕ
passed_at b go p later = b ∷ passed_inside go p.command (go p.next later)

abbrev pub no_more : List ℕ → List ℕ
no_more later = later

-- the places that are reached from the head, as often as they are reached
abbrev pub reached : Table → List ℕ
reached t = along no_more passed_at t.places (at t.places 0).next []

-- n numbers, from u up
abbrev pub counting : ℕ → ℕ → List ℕ
counting u zero = []
counting u (suc n) = u ∷ counting (suc u) n
