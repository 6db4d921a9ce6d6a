-- The number and the word of every refusal and of every fault: the only place where they are fixed.
use Rattle.std.specs.Prelude.{◌≡◌, ℕ, List, ◌∷◌, ◌++◌, codes, decimal, ◌≢◌}
use Rattle.codes.specs.declared.Refusal.{Refusal}
use Rattle.codes.specs.declared.Refusal.TheVariants.{Long, Word, Range, Bracket, Head, Crowd, Image, Book, Full, Link, Space, Bare, Party, Rest}
use Rattle.codes.specs.declared.Fault.{Fault}
use Rattle.codes.specs.declared.Fault.TheVariants.{Arguments, Underflow, NoNumeral, NoSequence, ZeroDivisor, Index, Empty, SequenceOnTop}

-- the number of a refusal
abbrev pub refusal_number : Refusal → ℕ
refusal_number Long = 1
refusal_number Word = 2
refusal_number Range = 3
refusal_number Bracket = 4
refusal_number Head = 5
refusal_number Crowd = 6
refusal_number Image = 21
refusal_number Book = 22
refusal_number Full = 23
refusal_number Link = 24
refusal_number Space = 25
refusal_number Bare = 31
refusal_number Party = 32
refusal_number Rest = 33

-- the word of a refusal
abbrev pub refusal_word : Refusal → List ℕ
refusal_word Long = codes "long"
refusal_word Word = codes "word"
refusal_word Range = codes "range"
refusal_word Bracket = codes "bracket"
refusal_word Head = codes "head"
refusal_word Crowd = codes "crowd"
refusal_word Image = codes "image"
refusal_word Book = codes "book"
refusal_word Full = codes "full"
refusal_word Link = codes "link"
refusal_word Space = codes "space"
refusal_word Bare = codes "bare"
refusal_word Party = codes "party"
refusal_word Rest = codes "rest"

-- the number of a fault
abbrev pub fault_number : Fault → ℕ
fault_number Arguments = 11
fault_number Underflow = 12
fault_number NoNumeral = 13
fault_number NoSequence = 14
fault_number ZeroDivisor = 15
fault_number Index = 16
fault_number Empty = 17
fault_number SequenceOnTop = 18

-- every fault has one word
abbrev pub fault_word : Fault → List ℕ
fault_word f = codes "fault"

-- what is shown of a refusal: its number, a blank and its word
abbrev pub refusal_text : Refusal → List ℕ
refusal_text r = decimal (refusal_number r) ++ (32 ∷ refusal_word r)

-- what is shown of a fault: its number, a blank and its word
abbrev pub fault_text : Fault → List ℕ
fault_text f = decimal (fault_number f) ++ (32 ∷ fault_word f)

-- a number tells which refusal or which fault it stands for
pub record CodesApart : Type 0 where
  -- two refusals with one number are the same refusal
  pub refusals : (r s : Refusal) → refusal_number r ≡ refusal_number s → r ≡ s
  -- two faults with one number are the same fault
  pub faults : (f g : Fault) → fault_number f ≡ fault_number g → f ≡ g
  -- no refusal has a fault's number
  pub between : (r : Refusal) (f : Fault) → refusal_number r ≢ fault_number f
