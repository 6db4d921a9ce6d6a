-- Texts that are written in parts, and what is left where there is room for the whole.
use Rattle.std.proofs.Common.{◌≡◌, ℕ, ◌+◌, ◌-◌, ◌<◌, ◌≤◌, ◌^◌, Bool, true, false, List, [], ◌∷◌, ◌++◌, length, min, drop, Some, Ok, Option, Result, sym, refl, ap, ◌∙◌, arith}
use Rattle.std.specs.List.{fold}
use Rattle.std.proofs.lemmas.List.{append-nil, append_assoc, length-append, set_at, set_past}
use Rattle.std.proofs.lemmas.List.Sums.{fold-append}
use Rattle.codes.specs.declared.Refusal.{Refusal}
use Rattle.stack.specs.Items.{head_of}
use Rattle.syntax.specs.declared.Event.{Event}
use Rattle.syntax.specs.declared.Event.TheVariants.{Numeral, Name, Open, Close}
use Rattle.syntax.specs.Code.{Code, Source, source, Bounded}
use Rattle.syntax.specs.Events.{events}
use Rattle.program.specs.Walking.{left_after}
use Rattle.grammar.specs.Printing.{event_token, lay, print}
use Rattle.grammar.proofs.Printing.{print_is_short}
use Rattle.printer.specs.Writing.{added, close_behind, ending, heading, written}

-- a text that is not too long to be counted is as long as the bytes that were added
pub length_added : (bs : List ℕ) (s : List ℕ × ℕ) → s.1 + length bs < 2 ^ 64 → (fold added s bs).1 ≡ s.1 + length bs
length_added [] s h = omega arith
length_added (b ∷ bs) s h = length_added bs (added s b) (omega arith) ∙ omega arith

-- bytes for which there is no room are only counted
pub only_counted : (bs lent : List ℕ) (n : ℕ) → length lent ≤ n → n < 2 ^ 64 → fold added (lent, n) bs ≡ (lent, min (n + length bs) (2 ^ 64 - 1))
only_counted [] lent n l h = ap (λ (i : ℕ). (lent, i)) (omega arith)
only_counted (b ∷ bs) lent n l h =
    ap (λ (xs : List ℕ). fold added (xs, min (n + 1) (2 ^ 64 - 1)) bs) (set_past lent n b l)
    ∙ only_counted bs lent (min (n + 1) (2 ^ 64 - 1)) (omega arith) (omega arith)
    ∙ ap (λ (i : ℕ). (lent, i)) (omega arith)

-- the heading and what follows it are the text
pub text_added : (k : ℕ) (q : Code) (s : List ℕ × ℕ) → fold added (fold added s (heading k)) (ending false (events q)) ≡ fold added s (print (source k q))
unfolding print
text_added k q s = sym (fold-append added s (heading k) (ending false (events q)))

-- an event that is left, and what follows it
ending_next : (tight : Bool) (e : Event) (es : List Event) → ending tight (e ∷ es) ≡ lay tight (event_token e ∷ []) ++ ending (close_behind e) es
ending_next tight Close es = refl
ending_next true Open es = refl
ending_next false Open es = refl
ending_next true (Numeral k) es = simp append-nil refl
ending_next false (Numeral k) es = simp append-nil refl
ending_next true (Name o) es = simp append-nil refl
ending_next false (Name o) es = simp append-nil refl

-- one event less is left once its token was added
pub added_next : (s t : List ℕ × ℕ) (tight behind : Bool) (e : Event) (es fs : List Event) → es ≡ e ∷ fs → behind ≡ close_behind e → t ≡ fold added s (lay tight (event_token e ∷ [])) → fold added t (ending behind fs) ≡ fold added s (ending tight es)
added_next s t tight behind e es fs is b h =
    ap (λ (x : List ℕ × ℕ). fold added x (ending behind fs)) h
    ∙ ap (λ (x : Bool). fold added (fold added s (lay tight (event_token e ∷ []))) (ending x fs)) b
    ∙ sym (fold-append added s (lay tight (event_token e ∷ [])) (ending (close_behind e) fs))
    ∙ ap (fold added s) (sym (ending_next tight e fs) ∙ ap (ending tight) (sym is))

-- what was left before a walk gave an event
pub left_before : (es fs : List Event) (e : Event) (r : Result (Option Event) Refusal) → r ≡ Ok (Some e) → r ≡ Ok (head_of es) → fs ≡ left_after r es → es ≡ e ∷ fs
left_before [] fs e r given first rest = cc
left_before (x ∷ es) fs e r given first rest = let same : x ≡ e = cc in let tail : fs ≡ es = rest ∙ ap (λ (q : Result (Option Event) Refusal). left_after q (x ∷ es)) given in cc

-- what was written where there is room for it

written_behind : (bs kept lent : List ℕ) → length kept + length bs < 2 ^ 64 → length bs ≤ length lent → (fold added (kept ++ lent, length kept) bs).0 ≡ kept ++ (bs ++ drop (length bs) lent)
written_behind [] kept lent h l = refl
written_behind (b ∷ bs) kept [] h l = let z : ⊥ = omega arith in absurd z
written_behind (b ∷ bs) kept (x ∷ lent) h l =
    let p = length-append kept (b ∷ []) in
    let first = set_at kept x lent b (length kept) refl ∙ sym (append_assoc kept (b ∷ []) lent) in
    let second : min (length kept + 1) (2 ^ 64 - 1) ≡ length (kept ++ (b ∷ [])) = omega arith in
    ap (λ (s : List ℕ × ℕ). (fold added s bs).0) (cc)
    ∙ written_behind bs (kept ++ (b ∷ [])) lent (omega arith) (omega arith)
    ∙ append_assoc kept (b ∷ []) (bs ++ drop (length bs) lent)

pub print_written : (p : Source) (lent : List ℕ) → Bounded p → length (print p) ≤ length lent → written lent (print p) ≡ print p ++ drop (length (print p)) lent
print_written p lent b l = let short = print_is_short p b in written_behind (print p) [] lent (omega arith) l
