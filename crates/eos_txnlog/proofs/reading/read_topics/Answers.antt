use Rattle.std.proofs.lemmas.Result.{err_from_is_err_and}
use Rattle.eos_wire.specs.Reading.{many_from}
use Rattle.eos_txnlog.specs.Reading.{topic_from}
use Rattle.eos_wire.proofs.Loop.{goes_on, ends, is_done}
use Rattle.eos_txnlog.proofs.reading.read_topics.Goals as goal

pub returns-in_err-topic : goal.returns-in_err-topic
returns-in_err-topic c =
    let p = err_from_is_err_and c.from_residual.result c.from_residual.ensures.1 in
    rw (p.1, p.2) (ends (λ xs. xs) (topic_from c.args.form) c.in_err-topic.field-0.0 c.loop.topics c.args.count c.loop.counter c.loop.rest (many_from (topic_from c.args.form) c.args.count c.args.rest.now) c.loop-test.true c.in_err-topic.ensures c.loop.invariant)

pub loop-preserved : goal.loop-preserved
loop-preserved c =
    rw c.in_ok-push.ensures.ok (goes_on (λ xs. xs) (topic_from c.args.form) c.loop.topics c.args.count c.loop.counter c.loop.rest c.in_ok-topic.topic c.read_topic.new.rest (many_from (topic_from c.args.form) c.args.count c.args.rest.now) c.loop-test.true c.in_ok-topic.ensures c.loop.invariant)

pub returns : goal.returns
returns c = is_done (λ xs. xs) (topic_from c.args.form) c.loop.topics c.args.count c.loop.counter c.loop.rest (many_from (topic_from c.args.form) c.args.count c.args.rest.now) c.loop-test.false c.loop.invariant
