-- What a token does to the builder, over plain values.
use Rattle.std.proofs.Common.{◌≡◌, ℕ, ◌≤◌, Ok, Err, sym, ap, ◌∙◌, arith}
use Rattle.codes.specs.declared.Refusal.{Refusal}
use Rattle.codes.specs.declared.Refusal.TheVariants.{Crowd}
use Rattle.stack.specs.Held.{room}
use Rattle.syntax.specs.Bounds.{most_commands}
use Rattle.syntax.specs.declared.Event.{Event}
use Rattle.syntax.specs.declared.Event.TheVariants.{Numeral, Name}
use Rattle.syntax.specs.Events.{feed}
use Rattle.grammar.specs.Words.{Meaning, number, command, huge, strange}
use Rattle.grammar.specs.Reading.{Step, wrong, fed}
use Rattle.grammar.proofs.Reading.{fed-none}
use Rattle.lexer.specs.Wording.{told}
use Rattle.program.specs.declared.builder.Builder.{Builder}
use Rattle.program.specs.Building.{working, refusal_of, Took}
use Rattle.program.proofs.Offers as offers

-- a token that stands for one command more, where the builder refuses it
pub wrong_fed : (b d : Builder) (e : Event) (s : Step) (x : Refusal) → most_commands ≤ room b.opens.now → refusal_of e ≡ Crowd → s ≡ fed (feed e (working b)) → Took e b d (Err x) → s ≡ wrong x
wrong_fed b d e s x l crowd is took =
    let n = offers.not_taken e b d x l took in is ∙ fed-none (feed e (working b)) n.0 ∙ ap wrong (sym (n.1 ∙ crowd))

-- a numeral or a name is refused only for the number of commands
pub crowds : (m : Meaning) (e : Event) → Ok e ≡ told m → refusal_of e ≡ Crowd
crowds (number z) e h = let q : e ≡ Numeral z = cc in ap refusal_of q
crowds (command o) e h = let q : e ≡ Name o = cc in ap refusal_of q
crowds huge e h = let z : ◌≡◌ {A = ℕ} 0 1 = cc in absurd (omega arith)
crowds strange e h = let z : ◌≡◌ {A = ℕ} 0 1 = cc in absurd (omega arith)
