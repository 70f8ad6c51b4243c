use Rattle.std.proofs.Common.{◌≡◌, List, length}
use Rattle.eos_base.specs.declared.partition_name.PartitionName.{PartitionName}
use Rattle.eos_lineage.specs.steps.Keys.{place_among, below_at, plain_left, HasTaken}
use Rattle.eos_lineage.proofs.SoFar.{SoFar}
use Rattle.eos_lineage.proofs.exact.take_log.Given as goal

abbrev pub invariant-loop-batch : goal.invariant-loop-batch
invariant-loop-batch l = (ns : List PartitionName) (n : PartitionName) → l.place ≡ place_among ns n
    → SoFar (below_at l.committed n) (HasTaken ns (plain_left l.fn.before) (plain_left l.left)) l.batches l.part.items

abbrev pub decreases-loop-batch : goal.decreases-loop-batch
decreases-loop-batch l = length l.batches
