-- What printing answers, and what it leaves in the bytes that are lent to it.
use Rattle.std.specs.Prelude.{ℕ, cond, ◌||◌, List, ◌++◌, length, drop, Ok, Err, Result, nat_lt}
use Rattle.codes.specs.declared.Refusal.{Refusal}
use Rattle.codes.specs.declared.Refusal.TheVariants.{Space}
use Rattle.syntax.specs.Bounds.{working_places}

-- the text's length, unless there are too few places to work in or too few bytes for the text
abbrev pub print_answer : ℕ → List ℕ → ℕ → Result ℕ Refusal
print_answer places text room = cond (nat_lt places working_places || nat_lt room (length text)) (Err Space) (Ok (length text))

-- the lent bytes after such an answer: the text and, behind it, the bytes that stood there; a refusal writes nothing
abbrev pub bytes_after : Result ℕ Refusal → List ℕ → List ℕ → List ℕ
bytes_after (Ok n) text lent = text ++ drop (length text) lent
bytes_after (Err e) text lent = lent
