-- What a word means: a number, a name, or neither.
use Rattle.std.specs.Prelude.{◌≡◌, ℕ, Bool, true, false, cond, List, [], ◌∷◌, ℤ, pos, neg_ℤ, codes, ◌==◌}
use Rattle.std.specs.Str.Parse.{digits_value}
use Rattle.std.specs.Str.{all_ascii_digits, bytes_eq}
use Rattle.arithmetic.specs.Numbers.{in_range}
use Rattle.syntax.specs.declared.Operator.{Operator}
use Rattle.syntax.specs.declared.Operator.TheVariants.{Add, Div, Eq, Gt, Lt, Mul, Rem, Sub}
use Rattle.syntax.specs.declared.Name.{Name}
use Rattle.syntax.specs.declared.Name.TheVariants.{Operator as operator, Exec, Nget, Pop, Sel, Swap}

-- the word of a name that takes two numerals and gives one
abbrev pub operator_word : Operator → List ℕ
operator_word Add = codes "add"
operator_word Div = codes "div"
operator_word Eq = codes "eq"
operator_word Gt = codes "gt"
operator_word Lt = codes "lt"
operator_word Mul = codes "mul"
operator_word Rem = codes "rem"
operator_word Sub = codes "sub"

-- the word of a name
abbrev pub name_word : Name → List ℕ
name_word (operator o) = operator_word o
name_word Exec = codes "exec"
name_word Nget = codes "nget"
name_word Pop = codes "pop"
name_word Sel = codes "sel"
name_word Swap = codes "swap"

-- all names, in the order of their words
abbrev pub names : List Name
names = operator Add ∷ operator Div ∷ operator Eq ∷ Exec ∷ operator Gt ∷ operator Lt ∷ operator Mul ∷ Nget ∷ Pop ∷ operator Rem ∷ Sel ∷ operator Sub ∷ Swap ∷ []

-- digits alone, at least one
abbrev pub digital : List ℕ → Bool
digital [] = false
digital (c ∷ cs) = all_ascii_digits (c ∷ cs)

-- a number of the language, a name, a numeral out of range, or neither a numeral nor a name
pub data Meaning : Type 0 where
  number : ℤ → Meaning
  command : Name → Meaning
  huge strange : Meaning

-- a numeral's meaning, by its value
abbrev pub ranged : ℤ → Meaning
ranged z = cond (in_range z) (number z) huge

-- the first of some names that has this word
abbrev pub named : List ℕ → List Name → Meaning
named w [] = strange
named w (o ∷ os) = cond (bytes_eq w (name_word o)) (command o) (named w os)

-- the name that has this word
unfoldable pub name_of : List ℕ → Meaning
name_of w = named w names

-- a word that begins with no minus
abbrev pub unsigned : List ℕ → Meaning
unsigned w = cond (digital w) (ranged (pos (digits_value 10 w))) (name_of w)

-- what stands after a minus
abbrev pub minused : List ℕ → Meaning
minused w = cond (digital w) (ranged (neg_ℤ (pos (digits_value 10 w)))) strange

-- what a word means; 45 is the minus
abbrev pub meaning : List ℕ → Meaning
meaning [] = strange
meaning (c ∷ cs) = cond (c == 45) (minused cs) (unsigned (c ∷ cs))

-- a word that is a numeral, and its value: digits, or a minus and digits
pub data Numeral : List ℕ → ℤ → Type 0 where
  plain : {w : List ℕ} → digital w ≡ true → Numeral w (pos (digits_value 10 w))
  minus : {w : List ℕ} → digital w ≡ true → Numeral (45 ∷ w) (neg_ℤ (pos (digits_value 10 w)))
