use Rattle.std.proofs.Common.{◌-◌, length}
use Rattle.eos_faults.proofs.sample.Sample.pass_batch.Given as goal

abbrev pub decreases-loop-at : goal.decreases-loop-at
decreases-loop-at l = length l.batch - l.at
