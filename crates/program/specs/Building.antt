-- What a builder answers to an event, and what it holds then.
use Rattle.std.specs.Prelude.{◌≡◌, ℕ, Bool, true, false, cond, Some, None, Ok, Err, Option, Result, nat_le}
use Rattle.codes.specs.declared.Refusal.{Refusal}
use Rattle.codes.specs.declared.Refusal.TheVariants.{Bracket, Crowd, Space}
use Rattle.stack.specs.Held.{held, room}
use Rattle.syntax.specs.declared.Event.{Event}
use Rattle.syntax.specs.declared.Event.TheVariants.{Numeral, Name, Open, Close}
use Rattle.syntax.specs.Code.{Code, Source, source}
use Rattle.syntax.specs.Events.{Draft, depth, feed}
use Rattle.arithmetic.specs.Numbers.{in_range}
use Rattle.layout.specs.declared.Command.{Command}
use Rattle.layout.specs.declared.Command.TheVariants.{Numeral as NumeralCommand, Name as NameCommand, Sequence as SequenceCommand}
use Rattle.layout.specs.Drafts.{drafted}
use Rattle.program.specs.declared.builder.Builder.{Builder}
use Rattle.program.specs.declared.record.Program.{Program}
use Rattle.program.specs.Programs.{program_of}

-- a numeral of the language, or a name
abbrev pub plain : Command → Bool
plain (NumeralCommand k) = in_range k
plain (NameCommand o) = true
plain (SequenceCommand f) = false

-- the event of such a command; a sequence begins by its bracket
abbrev pub event_of : Command → Event
event_of (NumeralCommand k) = Numeral k
event_of (NameCommand o) = Name o
event_of (SequenceCommand f) = Open

-- the draft that a builder holds
abbrev pub working : Builder → Draft
working b = drafted b.places b.used (held b.opens.now)

-- why an event is not taken: there is no bracket to close, or a command is one too many
abbrev pub refusal_of : Event → Refusal
refusal_of (Numeral k) = Crowd
refusal_of (Name o) = Crowd
refusal_of Open = Crowd
refusal_of Close = Bracket

-- whether an event needs one more place of lent memory than there is
abbrev pub lacks : Event → Draft → ℕ → Bool
lacks (Numeral k) d n = false
lacks (Name o) d n = false
lacks Open d n = nat_le n (depth d)
lacks Close d n = false

-- a draft that an event led to, within n places of lent memory; or the refusal
abbrev pub within : Event → Draft → ℕ → Option Draft → Result Draft Refusal
within e d n None = Err (refusal_of e)
within e d n (Some f) = cond (lacks e d n) (Err Space) (Ok f)

-- the draft after an event, or its refusal
abbrev pub offered : Event → Draft → ℕ → Result Draft Refusal
offered e d n = within e d n (feed e d)

-- the answer alone
abbrev pub answer : Result Draft Refusal → Result (Unit {0}) Refusal
answer (Ok d) = Ok tt
answer (Err r) = Err r

-- the draft afterwards: a refusal leaves what was there
abbrev pub draft_after : Result Draft Refusal → Draft → Draft
draft_after (Ok f) d = f
draft_after (Err r) d = d

-- what a call that is handed an event leaves
pub record Took (e : Event) (b d : Builder) (r : Result (Unit {0}) Refusal) : Type 0 where
  pub answers : r ≡ answer (offered e (working b) (room b.opens.now))
  pub holds : working d ≡ draft_after (offered e (working b) (room b.opens.now)) (working b)
  pub room : room d.opens.now ≡ room b.opens.now
  pub arity : d.arity ≡ b.arity
  pub same : d.opens.ghost_name ≡ b.opens.ghost_name
  pub places : d.opens.now.places.ghost_name ≡ b.opens.now.places.ghost_name

-- the program of a finished draft
abbrev pub completed : ℕ → Option Code → Option Source
completed k None = None
completed k (Some c) = Some (source k c)

-- the program of a record, if there is one
abbrev pub program_if : Option Program → Option Source
program_if None = None
program_if (Some p) = Some (program_of p)
