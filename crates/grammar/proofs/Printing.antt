-- What is printed: its tokens, that they are of the grammar, and its length.
use Rattle.std.proofs.Common.{◌≡◌, ℕ, suc, ◌+◌, ◌*◌, ◌^◌, ◌<◌, ◌≤◌, Bool, true, false, List, [], ◌∷◌, ◌++◌, length, ℤ, pos, negsuc, neg_ℤ, decimal, sym, refl, ap, ◌∙◌, subst, append_assoc, arith, length-append}
use lib.Signed.{mag}
use Rattle.std.specs.Char.{is_ascii_digit}
use Rattle.std.specs.Str.Parse.{digits_value}
use Rattle.std.specs.Fmt.{signed_decimal}
use Rattle.std.specs.Str.{all_ascii_digits}
use Rattle.std.proofs.lemmas.Bool.{and_parts}
use Rattle.std.proofs.lemmas.Bool.Decides.{nat_tests}
use Rattle.std.proofs.lemmas.Fmt.{digits_decimal, digits_value-decimal, decimal_nonempty, length-decimal-le, length_signed_le}
use Rattle.arithmetic.specs.Numbers.{in_range}
use Rattle.syntax.specs.declared.Operator.TheVariants.{Add, Div, Eq, Gt, Lt, Mul, Rem, Sub}
use Rattle.syntax.specs.declared.Name.{Name}
use Rattle.syntax.specs.declared.Name.TheVariants.{Operator as operator, Exec, Nget, Pop, Sel, Swap}
use Rattle.syntax.specs.declared.Event.{Event}
use Rattle.syntax.specs.declared.Event.TheVariants.{Close}
use Rattle.syntax.specs.Bounds.{most_bytes, most_parameters}
use Rattle.syntax.specs.Code.{Code, end, numeral, name, sequence, commands, Source, source, Ranged, Bounded}
use Rattle.syntax.specs.Events.{onto, events}
use Rattle.grammar.specs.Tokens.{Token, opening, closing, word, kind, letter, lex, tokens}
use Rattle.grammar.specs.Words.{name_word, digital, Numeral, plain, minus}
use Rattle.grammar.specs.Reading.{postfix}
use Rattle.grammar.specs.Printing.{spelled, spell, spelling, gap, lay, print}
use Rattle.grammar.specs.Grammar.{Commands, none, numeral_then, name_then, sequence_then, Spells, program_of, PrintIsShort}
use Rattle.grammar.proofs.Tokenizing.{Letters, Wordy, lex-then}
use Rattle.grammar.proofs.Words.{digits_are_numerals, digital-from, in_range_mag}

-- the tokens of events

pub spelled-onto : (c : Code) (es : List Event) → spelled (onto c es) ≡ spell c ++ spelled es
spelled-onto end es = refl
spelled-onto (numeral k q) es = ap (λ us. word (signed_decimal k) ∷ us) (spelled-onto q es)
spelled-onto (name o q) es = ap (λ us. word (name_word o) ∷ us) (spelled-onto q es)
spelled-onto (sequence b q) es =
    ap (λ us. opening ∷ us) (spelled-onto b (Close ∷ onto q es)
    ∙ ap (λ us. spell b ++ (closing ∷ us)) (spelled-onto q es)
    ∙ sym (append_assoc (spell b) (closing ∷ spell q) (spelled es))
    ∙ ap (λ us. us ++ spelled es) (sym (spelled-onto b (Close ∷ events q))))

pub spell-sequence : (b q : Code) → spell (sequence b q) ≡ opening ∷ (spell b ++ (closing ∷ spell q))
spell-sequence b q = ap (λ us. opening ∷ us) (spelled-onto b (Close ∷ events q))

-- a program's tokens, with its last bracket as an event
pub spelling-onto : (k : ℕ) (c : Code) → spelling (source k c) ≡ opening ∷ word postfix ∷ word (decimal k) ∷ spelled (onto c (Close ∷ []))
spelling-onto k c = ap (λ us. opening ∷ word postfix ∷ word (decimal k) ∷ us) (sym (spelled-onto c (Close ∷ [])))

-- they are of the grammar

digital-decimal : (n : ℕ) → n < 2 ^ 64 → digital (decimal n) ≡ true
digital-decimal n h = digital-from (decimal n) (decimal_nonempty n h) (digits_decimal digits_are_numerals n h)

numeral_signed : (z : ℤ) → mag z < 2 ^ 31 → Numeral (signed_decimal z) z
numeral_signed (pos n) h =
    subst (λ v. Numeral (decimal n) (pos v)) (digits_value-decimal digits_are_numerals n (omega arith)) (plain (digital-decimal n (omega arith)))
numeral_signed (negsuc n) h =
    subst (λ v. Numeral (45 ∷ decimal (suc n)) (neg_ℤ (pos v))) (digits_value-decimal digits_are_numerals (suc n) (omega arith)) (minus (digital-decimal (suc n) (omega arith)))

pub commands-spell : (q : Code) → Ranged q → Commands (spell q) q
commands-spell end h = none
commands-spell (numeral z q) h =
    numeral_then (numeral_signed z (in_range_mag z h.0)) h.0 (commands-spell q h.1)
commands-spell (name o q) h = name_then (commands-spell q h)
commands-spell (sequence b q) h =
    subst (λ ts. Commands ts (sequence b q)) (sym (spell-sequence b q)) (sequence_then (commands-spell b h.0) (commands-spell q h.1))

pub spells_spelling : (p : Source) → Bounded p → Spells (spelling p) p
spells_spelling (source k q) h =
    let few : k ≤ most_parameters = h.parameters in
    let same : digits_value 10 (decimal k) ≡ k = digits_value-decimal digits_are_numerals k (omega arith) in
    subst (λ v. Spells (spelling (source k q)) (source v q)) same
    (program_of (digital-decimal k (omega arith)) (omega arith) (commands-spell q h.numerals) h.commands)

-- words that come apart again

abbrev pub Clean : List Token → Type 0
Clean [] = Unit {0}
Clean (opening ∷ ts) = Clean ts
Clean (closing ∷ ts) = Clean ts
Clean (word w ∷ ts) = Wordy w × Clean ts

laid : (ts : List Token) → Clean ts → (lex (lay false ts) ≡ ([], ts)) × (tokens (lay true ts) ≡ ts)
laid [] h = (refl, refl)
laid (opening ∷ ts) h = (ap (λ us. ([], opening ∷ us)) (laid ts h).1, ap (λ us. opening ∷ us) (laid ts h).1)
laid (closing ∷ ts) h = (rw (laid ts h).0 refl, rw (laid ts h).0 refl)
laid (word w ∷ ts) h =
    let same : tokens (w ++ lay false ts) ≡ word w ∷ ts = lex-then w (lay false ts) ts h.0 (laid ts h.1).0 in
    (ap (λ us. ([], us)) same, same)

pub tokens-lay : (ts : List Token) → Clean ts → tokens (lay true ts) ≡ ts
tokens-lay ts h = (laid ts h).1

digit_letter : (c : ℕ) → is_ascii_digit c ≡ true → kind c ≡ letter
digit_letter c h = grind (arith, nat_tests)

digits_letters : (w : List ℕ) → all_ascii_digits w ≡ true → Letters w
digits_letters [] h = tt
digits_letters (c ∷ w) h =
    let both = and_parts (is_ascii_digit c) (all_ascii_digits w) h in
    (digit_letter c both.0, digits_letters w both.1)

decimal_wordy : (n : ℕ) → n < 2 ^ 64 → Wordy (decimal n)
decimal_wordy n h = (decimal_nonempty n h, digits_letters (decimal n) (digits_decimal digits_are_numerals n h))

signed_wordy : (z : ℤ) → mag z < 2 ^ 31 → Wordy (signed_decimal z)
signed_wordy (pos n) h = decimal_wordy n (omega arith)
signed_wordy (negsuc n) h = (omega arith, (refl, (decimal_wordy (suc n) (omega arith)).1))

name_wordy : (o : Name) → Wordy (name_word o)
name_wordy (operator Add) = (omega arith, search)
name_wordy (operator Div) = (omega arith, search)
name_wordy (operator Eq) = (omega arith, search)
name_wordy (operator Gt) = (omega arith, search)
name_wordy (operator Lt) = (omega arith, search)
name_wordy (operator Mul) = (omega arith, search)
name_wordy (operator Rem) = (omega arith, search)
name_wordy (operator Sub) = (omega arith, search)
name_wordy Exec = (omega arith, search)
name_wordy Nget = (omega arith, search)
name_wordy Pop = (omega arith, search)
name_wordy Sel = (omega arith, search)
name_wordy Swap = (omega arith, search)

postfix_wordy : Wordy postfix
postfix_wordy = (omega arith, search)

clean_onto : (q : Code) (es : List Event) → Ranged q → Clean (spelled es) → Clean (spelled (onto q es))
clean_onto end es h k = k
clean_onto (numeral z q) es h k = (signed_wordy z (in_range_mag z h.0), clean_onto q es h.1 k)
clean_onto (name o q) es h k = (name_wordy o, clean_onto q es h k)
clean_onto (sequence b q) es h k = clean_onto b (Close ∷ onto q es) h.0 (clean_onto q es h.1 k)

pub clean_spelling : (p : Source) → Bounded p → Clean (spelling p)
clean_spelling (source k q) h =
    let few : k ≤ most_parameters = h.parameters in
    subst Clean (sym (spelling-onto k q)) (postfix_wordy, (decimal_wordy k (omega arith), clean_onto q (Close ∷ []) h.numerals tt))

pub tokens-print : (p : Source) → Bounded p → tokens (print p) ≡ spelling p
unfolding print
tokens-print p h = tokens-lay (spelling p) (clean_spelling p h)

-- the length

-- the most that some tokens take
abbrev cost : List Token → ℕ
cost [] = 0
cost (opening ∷ ts) = 2 + cost ts
cost (closing ∷ ts) = 1 + cost ts
cost (word w ∷ ts) = 1 + length w + cost ts

gap_length : (b : Bool) (t : List ℕ) → length (gap b t) ≤ 1 + length t
gap_length true t = omega arith
gap_length false t = omega arith

lay-length : (b : Bool) (ts : List Token) → length (lay b ts) ≤ cost ts
lay-length b [] = omega arith
lay-length b (opening ∷ ts) = omega (arith, gap_length b (40 ∷ lay true ts), lay-length true ts)
lay-length b (closing ∷ ts) = omega (arith, lay-length false ts)
lay-length b (word w ∷ ts) =
    omega (arith, gap_length b (w ++ lay false ts), length-append w (lay false ts), lay-length false ts)

name-length : (o : Name) → length (name_word o) ≤ 4
name-length (operator Add) = omega arith
name-length (operator Div) = omega arith
name-length (operator Eq) = omega arith
name-length (operator Gt) = omega arith
name-length (operator Lt) = omega arith
name-length (operator Mul) = omega arith
name-length (operator Rem) = omega arith
name-length (operator Sub) = omega arith
name-length Exec = omega arith
name-length Nget = omega arith
name-length Pop = omega arith
name-length Sel = omega arith
name-length Swap = omega arith

-- eleven bytes are enough for a number
pub length-numeral : (z : ℤ) → in_range z ≡ true → length (signed_decimal z) ≤ 11
length-numeral z h =
    let m : mag z < 2 ^ 31 = in_range_mag z h in
    length_signed_le 10 z (omega arith) (omega arith)

cost_onto : (q : Code) (es : List Event) → Ranged q → cost (spelled (onto q es)) ≤ 12 * commands q + cost (spelled es)
cost_onto end es h = omega arith
cost_onto (numeral z q) es h = omega (arith, length-numeral z h.0, cost_onto q es h.1)
cost_onto (name o q) es h = omega (arith, name-length o, cost_onto q es h)
cost_onto (sequence b q) es h =
    omega (arith, cost_onto b (Close ∷ onto q es) h.0, cost_onto q es h.1)

cost_program : (k : ℕ) (q : Code) → Bounded (source k q) → cost (opening ∷ word postfix ∷ word (decimal k) ∷ spelled (onto q (Close ∷ []))) ≤ most_bytes
cost_program k q h =
    let few : k ≤ most_parameters = h.parameters in
    omega (arith, cost_onto q (Close ∷ []) h.numerals, length-decimal-le 1 k (omega arith) (omega arith) (omega arith), h.commands)

pub print_is_short : PrintIsShort
unfolding print
print_is_short (source k q) h =
    let low = lay-length true (spelling (source k q)) in
    let high = cost_program k q h in
    let same = ap cost (spelling-onto k q) in
    omega arith
