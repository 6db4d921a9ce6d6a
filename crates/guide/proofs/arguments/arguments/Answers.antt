use Rattle.std.proofs.Common.{map, vec_items, string_bytes, w32, SFits, rules}
use Rattle.guide.specs.RunReports.{arguments_of}
use Rattle.guide.proofs.Collecting.{bytes-at, within-map, one_collected, wrong_one, collects_wrong}
use Rattle.guide.proofs.arguments.arguments.Goals as goal

pub loop-index-preserved : goal.loop-index-preserved
loop-index-preserved c =
    let f : SFits w32 c.in-Ok.number = search rules in
    one_collected (map string_bytes c.args.words.now) (vec_items c.loop-index.numbers) (vec_items c.push.new.self) c.loop-index.index c.as_bytes.result.now c.in-Ok.number f
    (within-map string_bytes c.args.words.now c.loop-index.index c.loop-index-test.true)
    (bytes-at string_bytes c.args.words.now c.loop-index.index c.index-words-index.result c.as_bytes.result.now c.loop-index-test.true c.index-words-index.is c.as_bytes.ensures.value)
    c.in-Ok.ensures c.in_ok-push-in-Ok.ensures.items c.loop-index.invariant

pub returns-in-Err : goal.returns-in-Err
returns-in-Err c =
    collects_wrong (arguments_of (map string_bytes c.args.words.now)) _ (wrong_one (map string_bytes c.args.words.now) (vec_items c.loop-index.numbers) c.loop-index.index c.as_bytes.result.now c.in-Err.refusal
    (within-map string_bytes c.args.words.now c.loop-index.index c.loop-index-test.true)
    (bytes-at string_bytes c.args.words.now c.loop-index.index c.index-words-index.result c.as_bytes.result.now c.loop-index-test.true c.index-words-index.is c.as_bytes.ensures.value)
    c.in-Err.ensures c.loop-index.invariant)
