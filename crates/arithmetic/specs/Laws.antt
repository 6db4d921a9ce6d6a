-- What holds of the operations on numbers, in the words of whole numbers.
use Rattle.std.specs.Prelude.{◌≡◌, ◌^◌, ◌<◌, true, ◌⊎◌, ℤ, pos, negsuc, ◌+ℤ◌, ◌-ℤ◌, ◌*ℤ◌, ◌≢◌, int_div, int_lt, unsigned_abs}
use Rattle.arithmetic.specs.Numbers.{least, in_range}
use Rattle.arithmetic.specs.Operations.{reduced, sum, difference, product, quotient, remainder}

-- r is the one number that differs from z by a multiple of 2 ^ 32
pub record Residue (z r : ℤ) : Type 0 where
  -- it is a number
  pub within : in_range r ≡ true
  -- it differs by a multiple
  pub multiple : (k : ℤ) × (z ≡ r +ℤ k *ℤ pos (2 ^ 32))
  -- no other number does
  pub only : (s k : ℤ) → in_range s ≡ true → z ≡ s +ℤ k *ℤ pos (2 ^ 32) → s ≡ r

-- a reduced number is the residue of what it was
abbrev pub ReductionIsResidue : Type 0
ReductionIsResidue = (z : ℤ) → Residue z (reduced z)

-- to reduce a number leaves it
abbrev pub ReductionKeepsNumbers : Type 0
ReductionKeepsNumbers = (z : ℤ) → in_range z ≡ true → reduced z ≡ z

-- each operation gives the residue of the whole-number result
abbrev pub OperationsAreResidues : Type 0
OperationsAreResidues = (a b : ℤ) → Residue (a +ℤ b) (sum a b) × Residue (a -ℤ b) (difference a b) × Residue (a *ℤ b) (product a b)

-- each operation gives a number
abbrev pub OperationsStayInRange : Type 0
OperationsStayInRange = (a b : ℤ) → (in_range (sum a b) ≡ true) × (in_range (difference a b) ≡ true) × (in_range (product a b) ≡ true)

-- to add one number and then another is to add their sum
abbrev pub SumsRegroup : Type 0
SumsRegroup = (x a b : ℤ) → sum (sum x a) b ≡ sum x (sum a b)

-- to subtract one number and then another is to subtract their sum
abbrev pub DifferencesRegroup : Type 0
DifferencesRegroup = (x a b : ℤ) → difference (difference x a) b ≡ difference x (sum a b)

-- to multiply by one number and then by another is to multiply by their product
abbrev pub ProductsRegroup : Type 0
ProductsRegroup = (x a b : ℤ) → product (product x a) b ≡ product x (product a b)

-- the order of the numbers does not matter to a sum
abbrev pub SumsCommute : Type 0
SumsCommute = (a b : ℤ) → sum a b ≡ sum b a

-- the order of the numbers does not matter to a product
abbrev pub ProductsCommute : Type 0
ProductsCommute = (a b : ℤ) → product a b ≡ product b a

-- what a division of numbers gives
pub record Division (a b : ℤ) : Type 0 where
  -- the whole-number quotient and the remainder make up the dividend
  pub whole : a ≡ int_div a b *ℤ b +ℤ remainder a b
  -- the remainder is smaller than the divisor
  pub smaller : unsigned_abs (remainder a b) < unsigned_abs b
  -- it is zero, or negative exactly when the dividend is
  pub sign : (remainder a b ≡ pos 0) ⊎ (int_lt (remainder a b) (pos 0) ≡ int_lt a (pos 0))
  -- it is a number
  pub remains_within : in_range (remainder a b) ≡ true
  -- so is the quotient
  pub within : in_range (quotient a b) ≡ true
  -- the quotient is the whole-number one, but where the least number is divided by −1
  pub exact : (a ≡ least → b ≢ negsuc 0) → quotient a b ≡ int_div a b

-- every division of a number by another that is not zero
abbrev pub DivisionsAreExact : Type 0
DivisionsAreExact = (a b : ℤ) → in_range a ≡ true → in_range b ≡ true → (b ≢ pos 0) → Division a b

-- the least number divided by −1 is the least number, and leaves nothing
abbrev pub LeastByMinusOne : Type 0
LeastByMinusOne = (quotient least (negsuc 0) ≡ least) × (remainder least (negsuc 0) ≡ pos 0)
