use Rattle.std.proofs.Common.{length, refl, ◌∙◌}
use Rattle.std.proofs.lemmas.Result.{err_from_is_err_and}
use Rattle.grammar.specs.Reading.{body, program}
use Rattle.grammar.proofs.Reading.{parse_long, reading_in_few_places, reading_in_enough_places}
use Rattle.lexer.specs.Lexing.{rest, text_of}
use Rattle.reader.proofs.Texts.{verdict, spelled_out, blames_none, blamed_in, refuses}
use Rattle.reader.proofs.reading.read.Goals as goal

pub returns-then-brackets-lt-WORKING_PLACES-clause-reads : goal.returns-then-brackets-lt-WORKING_PLACES-clause-reads
returns-then-brackets-lt-WORKING_PLACES-clause-reads c =
    (refl, blames_none c.args.text.now _ _ c.into.result (reading_in_few_places (length c.args.brackets.now) c.args.text.now c.if-brackets-lt-WORKING_PLACES.true) c.into.ensures)

pub returns-then-text-gt-MOST_BYTES-clause-reads : goal.returns-then-text-gt-MOST_BYTES-clause-reads
returns-then-text-gt-MOST_BYTES-clause-reads c =
    let long = reading_in_enough_places (length c.args.brackets.now) c.args.text.now c.if-brackets-lt-WORKING_PLACES.false ∙ parse_long c.args.text.now c.if-text-gt-MOST_BYTES.true in
    (refl, blames_none c.args.text.now _ _ c.into-then-text-gt-MOST_BYTES.result long c.into-then-text-gt-MOST_BYTES.ensures)

pub returns-in_err-arity : goal.returns-in_err-arity
returns-in_err-arity c =
    let v = verdict (length c.args.brackets.now) c.args.text.now c.if-brackets-lt-WORKING_PLACES.false (rest c.new-lexer.result) c.if-text-gt-MOST_BYTES.false c.new-lexer.ensures.rest in
    let p = err_from_is_err_and c.from_residual.result c.from_residual.ensures.1 in
    let b = blamed_in (text_of c.new-lexer.result) c.args.text.now (program (rest c.new-lexer.result)) _ c.in_err-arity.field-0.0 c.new-lexer.ensures.text v c.in_err-arity.ensures.head in
    let r = refuses (length c.args.brackets.now) c.args.text.now c.args.into.now c.from_residual.result c.in_err-arity.field-0.0 p.0 p.1 p.2 b in
    record { reads = r.0; exactly = r.1 }

pub returns-in_err-program : goal.returns-in_err-program
returns-in_err-program c =
    let v = verdict (length c.args.brackets.now) c.args.text.now c.if-brackets-lt-WORKING_PLACES.false (rest c.new-lexer.result) c.if-text-gt-MOST_BYTES.false c.new-lexer.ensures.rest in
    let p = err_from_is_err_and c.from_residual-in_err-program.result c.from_residual-in_err-program.ensures.1 in
    let b = blamed_in (text_of c.header.new.lexer) c.args.text.now (body c.in_ok-arity.arity.count (rest c.header.new.lexer) _) _ c.in_err-program.field-0.0
    (c.header.ensures.text ∙ c.new-lexer.ensures.text) (v ∙ c.in_ok-arity.ensures.head) c.in_err-program.ensures in
    let r = refuses (length c.args.brackets.now) c.args.text.now c.args.into.now c.from_residual-in_err-program.result c.in_err-program.field-0.0 p.0 p.1 p.2 b in
    record { reads = r.0; exactly = r.1 }

pub returns : goal.returns
returns c =
    let v = verdict (length c.args.brackets.now) c.args.text.now c.if-brackets-lt-WORKING_PLACES.false (rest c.new-lexer.result) c.if-text-gt-MOST_BYTES.false c.new-lexer.ensures.rest in
    let e = v ∙ c.in_ok-arity.ensures.head ∙ c.in_ok-program.ensures in
    record { reads = e; exactly = spelled_out (length c.args.brackets.now) c.args.text.now c.if-brackets-lt-WORKING_PLACES.false _ c.if-text-gt-MOST_BYTES.false e }
