use Rattle.std.proofs.Common.{take}
use Rattle.printer.specs.Writing.{Adds}
use Rattle.printer.proofs.text.Text.put_all.Given as goal

abbrev pub invariant-loop-byte : goal.invariant-loop-byte
invariant-loop-byte l = Adds l.fn.self (take l.byte-index l.bytes) l.self
