use Rattle.eos_fold_file.proofs.EpochLists.{Walked}
use Rattle.eos_fold_file.proofs.epoch.are_entries.Given as goal

abbrev pub invariant-loop-head : goal.invariant-loop-head
invariant-loop-head l = Walked l.begin l.heads l.epochs l.head-index l.next l.reached.at l.reached.last
