-- Chains, and what a program's own events make.
use Rattle.std.proofs.Common.{◌≡◌, ℕ, ◌+◌, ◌<◌, ◌≤◌, ltb, List, [], ◌∷◌, length, Some, None, sym, refl, ap, ◌∙◌, arith}
use Rattle.std.proofs.lemmas.Bool.{cond-true, lt-ltb}
use Rattle.syntax.specs.declared.Event.{Event}
use Rattle.syntax.specs.declared.Event.TheVariants.{Close}
use Rattle.syntax.specs.Bounds.{most_commands}
use Rattle.syntax.specs.Code.{Code, end, numeral, name, sequence, append, commands, sequences}
use Rattle.syntax.specs.Events.{onto, events, Draft, draft, blank, commands_around, commands_so_far, sequences_around, sequences_so_far, depth, admit, feeds, openings}

pub append_assoc : (a b c : Code) → append (append a b) c ≡ append a (append b c)
append_assoc end b c = refl
append_assoc (numeral k q) b c = ap (numeral k) (append_assoc q b c)
append_assoc (name o q) b c = ap (name o) (append_assoc q b c)
append_assoc (sequence d q) b c = ap (sequence d) (append_assoc q b c)

pub append-end : (a : Code) → append a end ≡ a
append-end end = refl
append-end (numeral k q) = ap (numeral k) (append-end q)
append-end (name o q) = ap (name o) (append-end q)
append-end (sequence d q) = ap (sequence d) (append-end q)

pub commands-append : (c x : Code) → commands (append c x) ≡ commands c + commands x
commands-append end x = omega arith
commands-append (numeral k q) x = omega (arith, commands-append q x)
commands-append (name o q) x = omega (arith, commands-append q x)
commands-append (sequence b q) x = omega (arith, commands-append q x)

pub sequences-append : (c x : Code) → sequences (append c x) ≡ sequences c + sequences x
sequences-append end x = omega arith
sequences-append (numeral k q) x = omega (arith, sequences-append q x)
sequences-append (name o q) x = omega (arith, sequences-append q x)
sequences-append (sequence b q) x = omega (arith, sequences-append q x)

pub sequences_le : (c : Code) → sequences c ≤ commands c
sequences_le end = omega arith
sequences_le (numeral k q) = omega (arith, sequences_le q)
sequences_le (name o q) = omega (arith, sequences_le q)
sequences_le (sequence b q) = omega (arith, sequences_le b, sequences_le q)

pub admits : (n : ℕ) (d : Draft) → n < most_commands → admit n d ≡ Some d
admits n d l = cond-true (ltb n most_commands) (Some d) None (lt-ltb n most_commands l)

-- a chain's events add the chain
pub feeds-onto : (q : Code) (es : List Event) (c : Code) (cs : List Code) → commands q + commands_so_far (draft c cs) ≤ most_commands → feeds (onto q es) (Some (draft c cs)) ≡ feeds es (Some (draft (append c q) cs))
feeds-onto end es c cs l = ap (λ (x : Code). feeds es (Some (draft x cs))) (sym (append-end c))
feeds-onto (numeral k q) es c cs l =
    ap (feeds (onto q es)) (admits (commands c + commands_around cs) (draft (append c (numeral k end)) cs) (omega arith))
    ∙ feeds-onto q es (append c (numeral k end)) cs (omega (arith, commands-append c (numeral k end)))
    ∙ ap (λ (x : Code). feeds es (Some (draft x cs))) (append_assoc c (numeral k end) q)
feeds-onto (name o q) es c cs l =
    ap (feeds (onto q es)) (admits (commands c + commands_around cs) (draft (append c (name o end)) cs) (omega arith))
    ∙ feeds-onto q es (append c (name o end)) cs (omega (arith, commands-append c (name o end)))
    ∙ ap (λ (x : Code). feeds es (Some (draft x cs))) (append_assoc c (name o end) q)
feeds-onto (sequence b q) es c cs l =
    ap (feeds (onto b (Close ∷ onto q es))) (admits (commands c + commands_around cs) (draft end (c ∷ cs)) (omega arith))
    ∙ feeds-onto b (Close ∷ onto q es) end (c ∷ cs) (omega arith)
    ∙ feeds-onto q es (append c (sequence b end)) cs (omega (arith, commands-append c (sequence b end)))
    ∙ ap (λ (x : Code). feeds es (Some (draft x cs))) (append_assoc c (sequence b end) q)

-- a program's events make the program
pub feeds-events : (q : Code) → commands q ≤ most_commands → feeds (events q) (Some blank) ≡ Some (draft q [])
feeds-events q l = feeds-onto q [] end [] (omega arith)

pub feeds-none : (es : List Event) → feeds es None ≡ None
feeds-none [] = refl
feeds-none (e ∷ es) = feeds-none es

-- two programs with one text are one
pub one_text : (c d : Code) → commands c ≤ most_commands → commands d ≤ most_commands → events c ≡ events d → c ≡ d
one_text c d l m e =
    let a = feeds-events c l in
    let b = feeds-events d m in
    let f : feeds (events c) (Some blank) ≡ feeds (events d) (Some blank) = ap (λ (es : List Event). feeds es (Some blank)) e in
    cc

-- a chain opens at most as many brackets as it has commands
pub openings-onto : (c : Code) (es : List Event) → openings (onto c es) ≡ sequences c + openings es
openings-onto end es = omega arith
openings-onto (numeral k q) es = openings-onto q es
openings-onto (name o q) es = openings-onto q es
openings-onto (sequence b q) es = omega (arith, openings-onto b (Close ∷ onto q es), openings-onto q es)

-- a draft has at most as many sequences as commands
sequences_around_le : (cs : List Code) → sequences_around cs ≤ commands_around cs
sequences_around_le [] = omega arith
sequences_around_le (c ∷ cs) = omega (arith, sequences_le c, sequences_around_le cs)

pub sequences_so_far_le : (d : Draft) → sequences_so_far d ≤ commands_so_far d
sequences_so_far_le (draft c cs) = omega (arith, sequences_le c, sequences_around_le cs)

-- each open bracket is a command
pub depth_le : (d : Draft) → depth d ≤ commands_so_far d
depth_le (draft c cs) = omega (arith, around_le cs)
  where
    around_le : (cs : List Code) → length cs ≤ commands_around cs
    around_le [] = omega arith
    around_le (c ∷ cs) = omega (arith, around_le cs)
