use Rattle.std.proofs.Common.{length}
use Rattle.eos_faults.proofs.sample.Sample.pass_part.Given as goal

abbrev pub decreases-loop-batch : goal.decreases-loop-batch
decreases-loop-batch l = length l.batches
