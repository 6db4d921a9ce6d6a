use Rattle.std.proofs.Common.{rules, ℕ, ◌≤◌, ◌^◌, List, Bor, refl, arith}
use Rattle.std.proofs.lemmas.Fn.{serves_by}
use Rattle.lexer.proofs.Folds.{Goes, kept_along, told_digits}
use Rattle.lexer.proofs.words.digits.Goals as goal

pub try_fold-requires-clause-callable : goal.try_fold-requires-clause-callable
try_fold-requires-clause-callable c =
    serves_by _ (λ (xs : List (Bor ℕ)) (q : Unit {0} × ℕ). q.1 ≤ 2 ^ 32)
    (λ xs q x v j r. let e : Goes q.1 x.now v.1 = search rules in omega (arith, e.1))
    _ _ _ _ (omega arith) (λ xs t q x u y k j. search rules)

pub returns : goal.returns
returns c =
    let r = c.try_fold.ensures.ran in
    let k = kept_along c.args.word.now _ (λ p x q h. search rules) r.0 c.iter.result r.4.0 _ _ 0 (search rules) (refl, omega arith) r.4.1 r.5 in
    told_digits c.args.word.now k.0 r.3 r.4.0 c.try_fold.new.self r.1 _ c.try_fold.result (λ x h. search rules) (search rules) k.1 k.2 r.4.2 r.6
