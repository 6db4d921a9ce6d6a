-- The numbers of the language: those of 32 bits with a sign.
use Rattle.std.specs.Prelude.{Bool, ◌&&◌, ℤ, pos, negsuc, int_le}

-- −2147483648
abbrev pub least : ℤ
least = negsuc 2147483647

-- 2147483647
abbrev pub greatest : ℤ
greatest = pos 2147483647

-- whether a whole number is one of the language
abbrev pub in_range : ℤ → Bool
in_range z = int_le least z && int_le z greatest
