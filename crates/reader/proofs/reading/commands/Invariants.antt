use Rattle.std.proofs.Common.{◌≡◌, ◌≤◌, length}
use Rattle.grammar.specs.Reading.{body}
use Rattle.lexer.specs.Lexing.{rest, text_of}
use Rattle.program.specs.Building.{working}
use Rattle.stack.specs.Held.{room}
use Rattle.syntax.specs.Bounds.{most_commands}
use Rattle.reader.proofs.reading.commands.Given as goal

-- reading from the start is reading from here
abbrev pub invariant-loop-token : goal.invariant-loop-token
invariant-loop-token l =
    (body l.initial.builder.arity.count (rest l.initial.lexer) (working l.initial.builder) ≡ body l.initial.builder.arity.count (rest l.lexer) (working l.builder))
    × (text_of l.lexer ≡ text_of l.initial.lexer)
    × (l.builder.arity ≡ l.initial.builder.arity)
    × (most_commands ≤ room l.builder.opens.now)

abbrev pub decreases-loop-token : goal.decreases-loop-token
decreases-loop-token l = length (rest l.lexer)
