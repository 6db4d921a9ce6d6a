-- Stacks of a machine, where a sequence is the place of its commands, as stacks of the meaning.
use Rattle.std.specs.Prelude.{map}
use Rattle.semantics.specs.declared.Value.{Value}
use Rattle.semantics.specs.declared.Value.TheVariants.{Numeral, Sequence}
use Rattle.semantics.specs.Commands.{Stack}

module _ {A B : Type 0} (f : A → B) where
  -- a sequence stands for what f says
  abbrev pub denoted : Value A → Value B
  denoted (Numeral k) = Numeral k
  denoted (Sequence a) = Sequence (f a)

  abbrev pub denotes : Stack A → Stack B
  denotes s = map denoted s
