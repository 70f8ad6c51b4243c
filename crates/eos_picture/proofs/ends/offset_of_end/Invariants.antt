use Rattle.std.proofs.Common.{length}
use Rattle.eos_picture.proofs.ends.offset_of_end.Given as goal

abbrev pub decreases-loop-item : goal.decreases-loop-item
decreases-loop-item l = length l.items
