-- What a walk over a program has yet to pass.
use Rattle.std.specs.Prelude.{ℕ, cond, ◌||◌, List, [], ◌∷◌, Some, None, Option, ◌==◌, nat_le}
use Rattle.syntax.specs.declared.Event.{Event}
use Rattle.syntax.specs.declared.Event.TheVariants.{Close}
use Rattle.syntax.specs.Code.{Code, end}
use Rattle.syntax.specs.Events.{onto}
use Rattle.layout.specs.declared.Place.{Place}
use Rattle.layout.specs.Tables.{table_places, at, command_then, chain}

-- the place that a link leads to; none at the end of a chain
abbrev pub place_at : List Place → ℕ → Option Place
place_at ps v = cond (v == 0 || nat_le table_places v) None (Some (at ps v))

-- the chain that such a place begins; none begins the empty one
abbrev pub opened : List Place → Option Place → Code
opened ps None = end
opened ps (Some p) = command_then (chain ps) p.command (chain ps p.next)

-- the events after those of the innermost chain, by where each chain around it goes on
abbrev pub after : List Place → List ℕ → List Event
after ps [] = []
after ps (v ∷ vs) = Close ∷ onto (chain ps v) (after ps vs)

-- the events from place v on, and then those after its chain
abbrev pub left_of : List Place → ℕ → List ℕ → List Event
left_of ps v vs = onto (chain ps v) (after ps vs)
