-- What a walker gives next, and what is left then.
use Rattle.std.specs.Prelude.{ℕ, ◌+◌, ◌≤◌, cond, List, [], ◌∷◌, length, Some, None, Ok, Err, Option, Result, nat_le}
use Rattle.codes.specs.declared.Refusal.{Refusal}
use Rattle.codes.specs.declared.Refusal.TheVariants.{Space}
use Rattle.stack.specs.Held.{held, room}
use Rattle.syntax.specs.declared.Event.{Event}
use Rattle.syntax.specs.declared.Event.TheVariants.{Numeral, Name, Open, Close}
use Rattle.syntax.specs.Events.{openings}
use Rattle.layout.specs.Walking.{left_of}
use Rattle.program.specs.declared.walker.Walker.{Walker}

-- the events that a walk has yet to pass
abbrev pub left : Walker → List Event
left w = left_of w.program.now.table.places w.at (held w.after.now)

-- how many brackets it is in
abbrev pub inside : Walker → ℕ
inside w = length (held w.after.now)

-- what comes next, within n places of lent memory of which d are taken: the event, none at the end, or that memory is short
abbrev pub next_of : List Event → ℕ → ℕ → Result (Option Event) Refusal
next_of [] d n = Ok None
next_of (Numeral k ∷ es) d n = Ok (Some (Numeral k))
next_of (Name o ∷ es) d n = Ok (Some (Name o))
next_of (Open ∷ es) d n = cond (nat_le n d) (Err Space) (Ok (Some Open))
next_of (Close ∷ es) d n = Ok (Some Close)

-- what is left after such an answer
abbrev pub left_after : Result (Option Event) Refusal → List Event → List Event
left_after (Ok None) es = es
left_after (Ok (Some e)) [] = []
left_after (Ok (Some e)) (f ∷ es) = es
left_after (Err r) es = es

-- lent memory suffices for the brackets that are yet to open
abbrev pub Ample : Walker → Type 0
Ample w = openings (left w) + inside w ≤ room w.after.now
