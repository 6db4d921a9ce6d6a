-- What the operations on numbers give.
use Rattle.std.specs.Prelude.{cond, ℤ, ◌+ℤ◌, ◌-ℤ◌, ◌*ℤ◌, Ok, Err, Result, ◌==◌, int_div, int_rem, unsigned_abs}
use Rattle.std.specs.Int.{int_wrap, w32}
use Rattle.codes.specs.declared.Fault.{Fault}
use Rattle.codes.specs.declared.Fault.TheVariants.{ZeroDivisor}

-- a whole number reduced modulo 2 ^ 32 into the range of numbers
abbrev pub reduced : ℤ → ℤ
reduced z = int_wrap w32 z

-- the whole-number sum, reduced
abbrev pub sum : ℤ → ℤ → ℤ
sum a b = reduced (a +ℤ b)

-- the whole-number difference, reduced
abbrev pub difference : ℤ → ℤ → ℤ
difference a b = reduced (a -ℤ b)

-- the whole-number product, reduced
abbrev pub product : ℤ → ℤ → ℤ
product a b = reduced (a *ℤ b)

-- the whole-number quotient, rounded towards zero and reduced
abbrev pub quotient : ℤ → ℤ → ℤ
quotient a b = reduced (int_div a b)

-- what the quotient leaves over, with the sign of the dividend
abbrev pub remainder : ℤ → ℤ → ℤ
remainder a b = int_rem a b

-- the quotient and the remainder, unless the divisor is zero
abbrev pub divided : ℤ → ℤ → Result (ℤ × ℤ) Fault
divided a b = cond (unsigned_abs b == 0) (Err ZeroDivisor) (Ok (quotient a b, remainder a b))
