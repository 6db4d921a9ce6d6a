-- How programs and their events belong together.
use Rattle.std.specs.Prelude.{◌≡◌, ◌≤◌, [], Some}
use Rattle.syntax.specs.Bounds.{most_commands}
use Rattle.syntax.specs.Code.{Code, commands}
use Rattle.syntax.specs.Events.{events, draft, blank, feeds}

-- a program's events, taken one after the other, make the program
abbrev pub EventsMakeTheProgram : Type 0
EventsMakeTheProgram = (c : Code) → commands c ≤ most_commands → feeds (events c) (Some blank) ≡ Some (draft c [])

-- two programs with the same events are one
abbrev pub EventsTellProgramsApart : Type 0
EventsTellProgramsApart = (c d : Code) → commands c ≤ most_commands → commands d ≤ most_commands → events c ≡ events d → c ≡ d
