use Rattle.std.proofs.Common.{◌≡◌, true, take}
use Rattle.std.specs.List.{list_all}
use Rattle.eos_txnlog.specs.Writing.{fits_topic}
use Rattle.eos_txnlog.proofs.writing.fit_topics.Given as goal

abbrev pub invariant-loop-topic : goal.invariant-loop-topic
invariant-loop-topic l = list_all (fits_topic l.form) (take l.topic-index l.topics) ≡ true
