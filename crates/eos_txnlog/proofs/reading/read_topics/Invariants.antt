use Rattle.std.proofs.Common.{◌≡◌, ◌-◌}
use Rattle.eos_wire.specs.Reading.{many_from}
use Rattle.eos_txnlog.specs.Reading.{topic_from}
use Rattle.eos_wire.proofs.Loop.{with_front}
use Rattle.eos_txnlog.proofs.reading.read_topics.Given as goal

abbrev pub invariant-loop : goal.invariant-loop
invariant-loop l = with_front (λ xs. xs) l.topics (many_from (topic_from l.form) (l.count - l.counter) l.rest) ≡ many_from (topic_from l.form) l.count l.fn.rest
