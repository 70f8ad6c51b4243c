use Rattle.std.proofs.Common.{◌≡◌, ◌-◌}
use Rattle.eos_base.specs.Records.{skipped}
use Rattle.eos_wire.specs.Reading.{many_from}
use Rattle.eos_txnlog.specs.Reading.{topic_from}
use Rattle.eos_txnlog.proofs.reading.skip_topics.Given as goal

abbrev pub invariant-loop : goal.invariant-loop
invariant-loop l = skipped (many_from (topic_from l.form) (l.count - l.counter) l.rest) ≡ skipped (many_from (topic_from l.form) l.count l.fn.rest)
