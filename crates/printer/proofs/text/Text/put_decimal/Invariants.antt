use Rattle.printer.proofs.Digits.{DigitsFrom}
use Rattle.printer.proofs.text.Text.put_decimal.Given as goal

abbrev pub invariant-loop-front : goal.invariant-loop-front
invariant-loop-front l = DigitsFrom l.n l.digits l.first l.front

abbrev pub decreases-loop-front : goal.decreases-loop-front
decreases-loop-front l = l.front
