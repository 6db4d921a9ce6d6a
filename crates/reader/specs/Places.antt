-- Lines and columns, as people count them in a text.
use Rattle.std.specs.Prelude.{ℕ, ◌+◌, cond, List, [], ◌∷◌, ◌==◌}
use Rattle.reader.specs.declared.place.Position.{Position}

abbrev pub at_line : ℕ → ℕ → Position
at_line l c = record { line = l; column = c }

-- the first byte stands in line 1, column 1
abbrev pub first_place : Position
first_place = at_line 1 1

-- where the byte after b stands: a line feed, byte 10, ends its line
abbrev pub past : Position → ℕ → Position
past p b = cond (b == 10) (at_line (p.line + 1) 1) (at_line p.line (p.column + 1))

-- where the byte after some bytes stands
abbrev pub position_after : Position → List ℕ → Position
position_after p [] = p
position_after p (b ∷ bs) = position_after (past p b) bs
