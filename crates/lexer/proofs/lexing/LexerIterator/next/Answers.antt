use Rattle.std.proofs.Common.{refl, length, ap, arith}
use Rattle.grammar.specs.Tokens.{white}
use Rattle.lexer.proofs.Calls.{none_left, none_behind, dark, some_left, begun}
use Rattle.lexer.proofs.lexing.LexerIterator.next.Goals as goal

pub first_token-requires : goal.first_token-requires
first_token-requires c =
    dark c.args.self.now.text.now c.args.self.now.pos c.front_len.result (c.front_len.ensures.counts white (λ b r k. k))

pub returns-in_default-clause-steps : goal.returns-in_default-clause-steps
returns-in_default-clause-steps c =
    let text = c.args.self.now.text.now in
    let counts = c.front_len.ensures.counts white (λ b r k. k) in
    record {
      gives = none_left text c.args.self.now.pos c.front_len.result counts c.in_default.ensures;
      begins = (refl, none_behind text c.args.self.now.pos c.front_len.result counts c.in_default.ensures);
      stays = refl;
    }

pub returns-clause-steps : goal.returns-clause-steps
returns-clause-steps c =
    let e = c.front_len.ensures.counts white (λ b r k. k) in
    record {
      gives = some_left c.args.self.now.text.now c.args.self.now.pos c.front_len.result e c.in-Some.token c.in-Some.len c.in-Some.ensures;
      begins = begun c.args.self.now.text.now c.args.self.now.pos c.front_len.result e c.in-Some.token c.in-Some.len c.in-Some.ensures;
      stays = refl;
    }

pub returns-clause-goes : goal.returns-clause-goes
returns-clause-goes c =
    let e = some_left c.args.self.now.text.now c.args.self.now.pos c.front_len.result (c.front_len.ensures.counts white (λ b r k. k)) c.in-Some.token c.in-Some.len c.in-Some.ensures in
    record { on = λ f. (tt, f, omega (arith, ap length e)); keeps = tt; rests = λ f. tt }
