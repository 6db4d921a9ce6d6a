use Rattle.std.proofs.Common.{◌≡◌, ◌<◌, length, arith, rules}
use Rattle.std.specs.List.{prefix_len}
use Rattle.lexer.specs.Lexing.{is_letter}
use Rattle.lexer.proofs.Runs.{word_first}
use Rattle.lexer.proofs.lexing.first_token.Goals as goal

pub returns-in_default : goal.returns-in_default
returns-in_default c =
    let e : c.front_len-len.result ≡ prefix_len is_letter c.args.text.now = c.front_len-len.ensures.counts is_letter (λ b r k. search rules) in
    let l : 0 < length c.args.text.now = omega arith in
    (c.front_len-len.ensures.within, l, rw e (word_first c.args.text.now l (omega arith) (omega arith) (c.requires l)))
