use Rattle.std.proofs.Common.{◌-◌, length}
use Rattle.eos_faults.proofs.ranges.each_at.Given as goal

abbrev pub decreases-loop-source : goal.decreases-loop-source
decreases-loop-source l = length l.sources - l.at
