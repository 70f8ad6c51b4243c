use Rattle.std.proofs.Common.{length}
use Rattle.eos_picture.proofs.past.first_past.Given as goal

abbrev pub decreases-loop-item : goal.decreases-loop-item
decreases-loop-item l = length l.items
