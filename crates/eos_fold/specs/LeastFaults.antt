-- The fault that is named: of a partition's log the least that stands in the front of its segments, begun at 0; of several logs
-- that of the first one that has one.
-- Sources: those of the faults that stand (`Standing`); which of several is named is this project's own choice.
use Rattle.std.specs.Prelude.{◌⊎◌, ℕ, ℤ, List, [], ◌∷◌, Option, None, Some, ⊤}
use Rattle.eos_batch.specs.declared.batch.Batch.{Batch}
use Rattle.eos_evidence.specs.declared.segment.Segment.{Segment}
use Rattle.eos_touch.specs.declared.fault.PartitionFault.{PartitionFault}
use Rattle.eos_fold.specs.declared.stop.Stop.{Stop}
use Rattle.eos_fold.specs.Fronts.{IsFront}
use Rattle.eos_fold.specs.Parts.{PartLog}
use Rattle.eos_fold.specs.Standing.{IsPartitionFault}

-- the least fault of the partition of this name with these segments, which is declared to end here
pub record IsFaultIn (topic : List ℕ) (number end : ℤ) (segments : List Segment) (fault : Option PartitionFault) : Type 0 where
  pub batches : List Batch
  pub stop : Stop
  pub front : IsFront 0 segments batches stop
  pub least : IsPartitionFault topic number end batches stop fault

abbrev pub IsFaultOf : PartLog → Option PartitionFault → Type 0
IsFaultOf log fault = IsFaultIn log.topic log.number log.end log.segments fault

-- the fault of the first of these logs that has one
abbrev pub IsFirstFault : List PartLog → Option PartitionFault → Type 0
IsFirstFault [] None = ⊤
IsFirstFault [] (Some fault) = ⊥
IsFirstFault (log ∷ logs) None = IsFaultOf log None × IsFirstFault logs None
IsFirstFault (log ∷ logs) (Some fault) = IsFaultOf log (Some fault) ⊎ (IsFaultOf log None × IsFirstFault logs (Some fault))
