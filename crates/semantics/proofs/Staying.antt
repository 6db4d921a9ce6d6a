-- Numbers stay within the range.
use Rattle.std.proofs.Common.{◌≡◌, ℕ, Bool, true, false, ◌&&◌, eqb, List, [], ◌∷◌, ℤ, nat_abs, Ok, Err, Result, refl, subst}
use lib.Signed.{lt_z, le_z}
use Rattle.std.proofs.lemmas.Bool.{cond_both}
use Rattle.codes.specs.declared.Fault.{Fault}
use Rattle.codes.specs.declared.Fault.TheVariants.{ZeroDivisor}
use Rattle.arithmetic.specs.Numbers.{in_range}
use Rattle.arithmetic.specs.Operations.{quotient, remainder, divided}
use Rattle.arithmetic.proofs.Residues.{reduced-in_range}
use Rattle.arithmetic.proofs.Divisions.{quotient-in_range, remainder-in_range}
use Rattle.syntax.specs.declared.Operator.{Operator}
use Rattle.syntax.specs.declared.Operator.TheVariants.{Add, Div, Eq, Gt, Lt, Mul, Rem, Sub}
use Rattle.syntax.specs.declared.Name.{Name}
use Rattle.syntax.specs.Code.{Code, end, numeral, name, sequence, append, Ranged, Source, code_of}
use Rattle.semantics.specs.declared.Value.TheVariants.{Numeral, Sequence}
use Rattle.semantics.specs.declared.Spent.{Spent}
use Rattle.semantics.specs.declared.Run.{Run}
use Rattle.semantics.proofs.Alike.{numerals, sequences, Alikes, none, more}
use Rattle.semantics.specs.Commands.{Stack, Effect, next, enter, stop, truth, quotient_in, remainder_in, compute, act}
use Rattle.semantics.specs.Meaning.{Outcome, Course, done, stopped, spend, meaning, numbers, run}
use Rattle.semantics.specs.Running.{Runs, ends, pushes_numeral, pushes_sequence, goes_on, enters, stops, Ends, wrong_count, number, empty, sequence_on_top, faulted}
use Rattle.semantics.specs.Laws.{Within, NumbersWithin, StaysInRange}
use Rattle.semantics.proofs.Acts.{Closed, Likes, nexts, enters as enters_alike, stops as stops_alike, acts}
use Rattle.semantics.proofs.Runs.{every_run_ends_lem}

-- a number of the language
abbrev pub InRange : ℤ → Type 0
InRange k = in_range k ≡ true

-- what an operator gives, if it gives anything
abbrev Given : Outcome → Type 0
Given (Ok k) = InRange k
Given (Err f) = Unit {0}

given : (x : Outcome) (k : ℤ) → x ≡ Ok k → Given x → InRange k
given x k e h = subst Given e h

truth-in_range : (b : Bool) → InRange (truth b)
truth-in_range true = refl
truth-in_range false = refl

division : (a b : ℤ) → InRange a → Given (quotient_in (divided a b)) × Given (remainder_in (divided a b))
division a b h =
    cond_both (eqb (nat_abs b) 0) (Err ZeroDivisor) (Ok (quotient a b, remainder a b)) (λ (x : Result (ℤ × ℤ) Fault). Given (quotient_in x) × Given (remainder_in x))
    (λ e. (tt, tt)) (λ e. (quotient-in_range a b, remainder-in_range a b h))

computed : (o : Operator) (a b : ℤ) → InRange a → Given (compute o a b)
computed Add a b h = reduced-in_range _
computed Sub a b h = reduced-in_range _
computed Mul a b h = reduced-in_range _
computed Div a b h = (division a b h).0
computed Rem a b h = (division a b h).1
computed Lt a b h = truth-in_range (lt_z a b)
computed Eq a b h = truth-in_range (le_z a b && le_z b a)
computed Gt a b h = truth-in_range (lt_z b a)

pub numbers-close : Closed InRange
numbers-close o a b k x y e = given (compute o a b) k e (computed o a b x)

abbrev Second : Code → Code → Type 0
Second a b = Ranged b

itself : (s : Stack Code) → Within s → Alikes InRange Second s s
itself [] h = none
itself (Numeral k ∷ s) h = more (numerals h.0) (itself s h.1)
itself (Sequence b ∷ s) h = more (sequences h.0) (itself s h.1)

second : {s t : Stack Code} → Alikes InRange Second s t → Within t
second none = tt
second (more (numerals p) h) = (p, second h)
second (more (sequences r) h) = (r, second h)

-- what an effect leaves
abbrev Left : Effect Code → Type 0
Left (next t) = Within t
Left (enter b t) = Ranged b × Within t
Left (stop f) = Unit {0}

left : {n : ℕ} {x y : Effect Code} → Likes InRange Second 0 (λ (b : Code). 0) n x y → Left y
left (nexts h l) = second h
left (enters_alike r h l) = (r, second h)
left stops_alike = tt

leaves : (o : Name) (s : Stack Code) (x : Effect Code) → act o s ≡ x → Within s → Left x
leaves o s x e h = subst Left e (left (acts InRange Second 0 (λ (b : Code). 0) numbers-close o (itself s h)))

ranged-append : (b q : Code) → Ranged b → Ranged q → Ranged (append b q)
ranged-append end q h r = r
ranged-append (numeral k b) q h r = (h.0, ranged-append b q h.1 r)
ranged-append (name o b) q h r = ranged-append b q h r
ranged-append (sequence c b) q h r = (h.0, ranged-append b q h.1 r)

-- how a course ends
abbrev AtEnd : Course → Type 0
AtEnd (done t x) = Within t
AtEnd (stopped f x) = Unit {0}

later : (x : Spent) (c : Course) → AtEnd c → AtEnd (spend x c)
later x (done t y) h = h
later x (stopped f y) h = tt

stays : (q : Code) (s : Stack Code) (c : Course) → Runs q s c → Ranged q → Within s → AtEnd c
stays q s c ends r h = h
stays q s c (pushes_numeral {k} {q = p} {c = d} u) r h = later _ d (stays p (Numeral k ∷ s) d u r.1 (r.0, h))
stays q s c (pushes_sequence {b} {q = p} {c = d} u) r h = later _ d (stays p (Sequence b ∷ s) d u r.1 (r.0, h))
stays q s c (goes_on {o} {q = p} {t} {c = d} e u) r h = later _ d (stays p t d u r (leaves o s (next t) e h))
stays q s c (enters {o} {b} {q = p} {t} {c = d} e u) r h =
    let l = leaves o s (enter b t) e h in
    later _ d (stays (append b p) t d u (ranged-append b p l.0 r) l.1)
stays q s c (stops e) r h = tt

numbers_are_within : (ks : List ℤ) → NumbersWithin ks → Within (numbers ks)
numbers_are_within [] h = tt
numbers_are_within (k ∷ ks) h = (h.0, numbers_are_within ks h.1)

-- what a program gives
abbrev InOutcome : Outcome → Type 0
InOutcome (Ok k) = InRange k
InOutcome (Err f) = Unit {0}

gives : (p : Source) (ks : List ℤ) (r : Run) → Ends p ks r → Ranged (code_of p) → NumbersWithin ks → InOutcome r.outcome
gives p ks r (wrong_count d) h w = tt
gives p ks r (number {c} {k} {s} {x} e u) h w = (stays c (numbers ks) (done (Numeral k ∷ s) x) u h (numbers_are_within ks w)).0
gives p ks r (empty e u) h w = tt
gives p ks r (sequence_on_top e u) h w = tt
gives p ks r (faulted e u) h w = tt

pub stays_in_range : StaysInRange
stays_in_range = record {
  chains = λ q s t x r h e. subst AtEnd e (stays q s (meaning q s) (every_run_ends_lem.chains q s) r h);
  programs = λ p ks k r h e. subst InOutcome e (gives p ks (run p ks) (every_run_ends_lem.programs p ks) r h);
}
