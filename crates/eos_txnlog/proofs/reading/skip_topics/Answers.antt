use Rattle.std.proofs.Common.{[]}
use Rattle.std.proofs.lemmas.Result.{err_from_is_err_and}
use Rattle.eos_base.specs.Records.{skipped}
use Rattle.eos_wire.specs.Reading.{many_from}
use Rattle.eos_txnlog.specs.Reading.{topic_from}
use Rattle.eos_wire.proofs.Loop.{skips_on, skips_end, is_done}
use Rattle.eos_txnlog.proofs.reading.skip_topics.Goals as goal

pub returns-in_err-skip_topic : goal.returns-in_err-skip_topic
returns-in_err-skip_topic c =
    let p = err_from_is_err_and c.from_residual.result c.from_residual.ensures.1 in
    rw (p.1, p.2) (skips_end (topic_from c.args.form) c.in_err-skip_topic.field-0.0 c.args.count c.loop.counter c.loop.rest (skipped (many_from (topic_from c.args.form) c.args.count c.args.rest.now)) c.loop-test.true c.in_err-skip_topic.ensures c.loop.invariant)

pub loop-preserved : goal.loop-preserved
loop-preserved c =
    skips_on (topic_from c.args.form) c.args.count c.loop.counter c.loop.rest c.skip_topic.new.rest (skipped (many_from (topic_from c.args.form) c.args.count c.args.rest.now)) c.loop-test.true c.in_ok-skip_topic.ensures c.loop.invariant

pub returns : goal.returns
returns c = is_done (λ _. tt) (topic_from c.args.form) [] c.args.count c.loop.counter c.loop.rest (skipped (many_from (topic_from c.args.form) c.args.count c.args.rest.now)) c.loop-test.false c.loop.invariant
