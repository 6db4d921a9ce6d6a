-- Small texts, read and printed.
use Rattle.std.proofs.Common.{◌≡◌, ◌+◌, ◌-◌, [], ◌∷◌, replicate, pos, negsuc, codes, refl, arith}
use Rattle.std.proofs.lemmas.Fmt.{decimal_digit}
use Rattle.codes.specs.declared.Refusal.TheVariants.{Long, Word, Range, Bracket, Head, Crowd, Space}
use Rattle.syntax.specs.declared.Operator.TheVariants.{Add}
use Rattle.syntax.specs.declared.Name.TheVariants.{Operator as operator, Exec, Swap}
use Rattle.syntax.specs.Bounds.{most_bytes, most_commands, working_places}
use Rattle.syntax.specs.Code.{end, numeral, name, sequence, source}
use Rattle.grammar.specs.Tokens.{opening, closing, word, tokens}
use Rattle.grammar.specs.Words.{name_of}
use Rattle.grammar.specs.Reading.{taken, refused, program, parse, reading}
use Rattle.grammar.specs.Printing.{print}

longest_words : tokens (codes "a(b-1)2") ≡ word (codes "a") ∷ opening ∷ word (codes "b-1") ∷ closing ∷ word (codes "2") ∷ []
longest_words = refl

a_program : parse (codes " ( postfix 02 1 -007 add(swap () exec))") ≡ taken (source 2 (numeral (pos 1) (numeral (negsuc 6) (name (operator Add) (sequence (name Swap (sequence end (name Exec end))) end)))))
unfolding parse name_of
a_program = refl

its_text : print (source 2 (numeral (pos 1) (numeral (negsuc 6) (name (operator Add) (sequence (name Swap (sequence end (name Exec end))) end))))) ≡ codes "(postfix 2 1 -7 add (swap () exec))"
unfolding print
its_text = rw (decimal_digit 2 (omega arith), decimal_digit 1 (omega arith), decimal_digit 7 (omega arith)) refl

minus_zero : parse (codes "(postfix 0 -0)") ≡ taken (source 0 (numeral (pos 0) end))
unfolding parse name_of
minus_zero = refl

least_number : parse (codes "(postfix 0 -2147483648)") ≡ taken (source 0 (numeral (negsuc 2147483647) end))
unfolding parse name_of
least_number = refl

greatest_number : parse (codes "(postfix 8 2147483647)") ≡ taken (source 8 (numeral (pos 2147483647) end))
unfolding parse name_of
greatest_number = refl

too_long : parse (replicate (most_bytes + 1) 32) ≡ refused Long []
unfolding parse name_of
too_long = refl

too_few_places : reading (working_places - 1) (codes "(postfix 0)") ≡ refused Space []
unfolding reading
too_few_places = refl

enough_places : reading working_places (codes "(postfix 0)") ≡ taken (source 0 end)
unfolding reading parse name_of
enough_places = refl

no_word : parse (codes "(postfix 0 ad 99999999999") ≡ refused Word (word (codes "ad") ∷ word (codes "99999999999") ∷ [])
unfolding parse name_of
no_word = refl

no_plus : parse (codes "(postfix 0 +1)") ≡ refused Word (word (codes "+1") ∷ closing ∷ [])
unfolding parse name_of
no_plus = refl

too_large : parse (codes "(postfix 0 2147483648 ad") ≡ refused Range (word (codes "2147483648") ∷ word (codes "ad") ∷ [])
unfolding parse name_of
too_large = refl

too_small : parse (codes "(postfix 0 -2147483649)") ≡ refused Range (word (codes "-2147483649") ∷ closing ∷ [])
unfolding parse name_of
too_small = refl

one_bracket_more : parse (codes "(postfix 0) )") ≡ refused Bracket (closing ∷ [])
unfolding parse name_of
one_bracket_more = refl

one_bracket_less : parse (codes "(postfix 0 (1)") ≡ refused Bracket []
unfolding parse name_of
one_bracket_less = refl

nine_parameters : parse (codes "(postfix 9)") ≡ refused Head (word (codes "9") ∷ closing ∷ [])
unfolding parse name_of
nine_parameters = refl

no_parameters : parse (codes "(postfix") ≡ refused Head []
unfolding parse name_of
no_parameters = refl

nothing_at_all : parse [] ≡ refused Head []
unfolding parse name_of
nothing_at_all = refl

as_many_as_there_may_be : program (opening ∷ word (codes "postfix") ∷ word (codes "0") ∷ replicate most_commands opening) ≡ refused Bracket []
unfolding name_of
as_many_as_there_may_be = refl

one_too_many : program (opening ∷ word (codes "postfix") ∷ word (codes "0") ∷ replicate (most_commands + 1) opening) ≡ refused Crowd (opening ∷ [])
unfolding name_of
one_too_many = refl
