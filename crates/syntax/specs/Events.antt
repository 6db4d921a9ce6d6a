-- A program's text as a list of events, and how a program grows by them.
use Rattle.std.specs.Prelude.{ℕ, suc, ◌+◌, cond, List, [], ◌∷◌, length, Some, None, Option, nat_lt}
use Rattle.syntax.specs.declared.Event.{Event}
use Rattle.syntax.specs.declared.Event.TheVariants.{Numeral, Name, Open, Close}
use Rattle.syntax.specs.Bounds.{most_commands}
use Rattle.syntax.specs.Code.{Code, end, numeral, name, sequence, append, commands, sequences}

-- the events of a chain, and then some more
abbrev pub onto : Code → List Event → List Event
onto end es = es
onto (numeral k q) es = Numeral k ∷ onto q es
onto (name o q) es = Name o ∷ onto q es
onto (sequence b q) es = Open ∷ onto b (Close ∷ onto q es)

-- the events of a chain, in the order of its text
abbrev pub events : Code → List Event
events c = onto c []

-- a program that is being written: the innermost chain so far and, from the inside out, the chains around it, each up to
-- the bracket that is open in it
pub data Draft : Type 0 where
  draft : Code → List Code → Draft

abbrev pub blank : Draft
blank = draft end []

abbrev pub commands_around : List Code → ℕ
commands_around [] = 0
commands_around (c ∷ cs) = suc (commands c + commands_around cs)

-- how many commands, the open brackets counted
abbrev pub commands_so_far : Draft → ℕ
commands_so_far (draft c cs) = commands c + commands_around cs

abbrev pub sequences_around : List Code → ℕ
sequences_around [] = 0
sequences_around (c ∷ cs) = suc (sequences c + sequences_around cs)

-- how many of them are sequences
abbrev pub sequences_so_far : Draft → ℕ
sequences_so_far (draft c cs) = sequences c + sequences_around cs

-- how many brackets are open
abbrev pub depth : Draft → ℕ
depth (draft c cs) = length cs

-- a draft with one command more, unless n commands are already as many as there may be
abbrev pub admit : ℕ → Draft → Option Draft
admit n d = cond (nat_lt n most_commands) (Some d) None

-- the innermost chain becomes a sequence of the chain around it, if there is one
abbrev pub closed : Code → List Code → Option Draft
closed c [] = None
closed c (b ∷ cs) = Some (draft (append b (sequence c end)) cs)

-- one event more; nothing where a command is one too many, or where no bracket is open to be closed
abbrev pub feed : Event → Draft → Option Draft
feed (Numeral k) (draft c cs) = admit (commands c + commands_around cs) (draft (append c (numeral k end)) cs)
feed (Name o) (draft c cs) = admit (commands c + commands_around cs) (draft (append c (name o end)) cs)
feed Open (draft c cs) = admit (commands c + commands_around cs) (draft end (c ∷ cs))
feed Close (draft c cs) = closed c cs

abbrev pub feed_if : Option Draft → Event → Option Draft
feed_if None e = None
feed_if (Some d) e = feed e d

-- many events, one after the other
abbrev pub feeds : List Event → Option Draft → Option Draft
feeds [] o = o
feeds (e ∷ es) o = feeds es (feed_if o e)

-- the chain, where no bracket is open
abbrev pub finished : Draft → Option Code
finished (draft c []) = Some c
finished (draft c (b ∷ cs)) = None

-- how many brackets open
abbrev pub openings : List Event → ℕ
openings [] = 0
openings (Numeral k ∷ es) = openings es
openings (Name o ∷ es) = openings es
openings (Open ∷ es) = suc (openings es)
openings (Close ∷ es) = openings es
