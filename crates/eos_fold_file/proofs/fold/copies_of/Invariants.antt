use Rattle.std.proofs.Common.{◌≡◌, take}
use Rattle.eos_fold_file.proofs.fold.copies_of.Given as goal

abbrev pub invariant-loop-topic : goal.invariant-loop-topic
invariant-loop-topic l = l.copies.items ≡ take l.topic-index l.topics
