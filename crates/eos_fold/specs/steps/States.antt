-- The ending that a data batch's state stands for, with the numbers beside it.
use Rattle.std.specs.Prelude.{ℤ}
use Rattle.eos_batch.specs.declared.marker.Kind.TheVariants.{Commit, Abort}
use Rattle.eos_fold.specs.declared.entry.Ending.{Ending}
use Rattle.eos_fold.specs.declared.entry.Ending.TheVariants as endings
use Rattle.eos_fold.specs.declared.head.State.{State}
use Rattle.eos_fold.specs.declared.head.State.TheVariants.{Plain, Waiting, Committed, Aborted}

-- of a batch of this producer id, and an end marker of this epoch
abbrev pub ending_in : State → ℤ → ℤ → Ending
ending_in Plain producer epoch = endings.Plain
ending_in Waiting producer epoch = endings.Waiting producer
ending_in Committed producer epoch = endings.Ended epoch Commit
ending_in Aborted producer epoch = endings.Ended epoch Abort
