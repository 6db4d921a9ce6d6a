-- The sizes that the language fixes, each in one place.
use Rattle.std.specs.Prelude.{ℕ}

-- commands in a program, inner ones counted
abbrev pub most_commands : ℕ
most_commands = 255

-- parameters of a program
abbrev pub most_parameters : ℕ
most_parameters = 8

-- bytes in a text
abbrev pub most_bytes : ℕ
most_bytes = 4096

-- places in a lent stack
abbrev pub working_places : ℕ
working_places = 264
