-- All faults of a partition's log by itself, as one list: those that stand in the front of its segments, of which there is one.
use Rattle.std.specs.Prelude.{List}
use Rattle.eos_batch.specs.declared.batch.Batch.{Batch}
use Rattle.eos_evidence.specs.declared.partition.Partition.{Partition}
use Rattle.eos_touch.specs.declared.fault.PartitionFault.{PartitionFault}
use Rattle.eos_fold.specs.declared.stop.Stop.{Stop}
use Rattle.eos_fold.specs.Fronts.{IsFront}
use Rattle.eos_fold.specs.Standing.{fault_cmp, IsStanding}
use Rattle.eos_base.specs.AllOf.{IsAllOf}

pub record AreFaultsOf (p : Partition) (list : List PartitionFault) : Type 0 where
  pub batches : List Batch
  pub stop : Stop
  pub front : IsFront 0 p.segments batches stop
  pub faults : IsAllOf fault_cmp (IsStanding p.end.topic p.end.partition p.end.end batches stop) list
