-- What holds of the print of every record.
use Rattle.std.specs.Prelude.{◌≡◌, ◌≤◌, length}
use Rattle.syntax.specs.Bounds.{most_bytes}
use Rattle.grammar.specs.Printing.{print}
use Rattle.grammar.specs.Reading.{parse, taken}
use Rattle.program.specs.declared.record.Program.{Program}
use Rattle.program.specs.Programs.{program_of}

-- the print of every record is no longer than a text may be, and is read as the program that the record is
abbrev pub EveryRecordReadsBack : Type 0
EveryRecordReadsBack = (p : Program) → (length (print (program_of p)) ≤ most_bytes) × (parse (print (program_of p)) ≡ taken (program_of p))
