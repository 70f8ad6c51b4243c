-- What is said of a partition of which is kept what is wanted of its log: there is the log of its segments, and this is what is
-- wanted of it. Its least fault, its batches, how large its segments are, and where its leader epoch changes, is told beside it, since
-- it is said of their bytes.
use Rattle.std.specs.Prelude.{◌≡◌, ℕ, List, [], ◌∷◌, length, Option, None, ⊤}
use Rattle.eos_batch.specs.declared.batch.Batch.{Batch}
use Rattle.eos_evidence.specs.declared.partition.Partition.{Partition}
use Rattle.eos_evidence.specs.declared.segment.Segment.{Segment}
use Rattle.eos_evidence.specs.declared.ends.End.{End}
use Rattle.eos_touch.specs.declared.fault.PartitionFault.{PartitionFault}
use Rattle.eos_fold.specs.declared.stop.Stop.{Stop}
use Rattle.eos_fold.specs.Fronts.{IsFront}
use Rattle.eos_fold.specs.LeastFaults.{IsFaultIn}
use Rattle.eos_fold.specs.Parts.{PartLog}
use Rattle.eos_fold.specs.Whole.{IsPartOf}
use Rattle.eos_reading.specs.declared.epoch.EpochEntry.{EpochEntry}
use Rattle.eos_reading.specs.Epochs.{epoch_entries}
use Rattle.eos_kept.specs.Sizes.{AreSized}
use Rattle.eos_reading.specs.declared.wanted.Wanted.{Wanted}
use Rattle.eos_reading.specs.Wanted.{wanted_log}
use Rattle.eos_kept.specs.declared.part.Told.{Told}

-- what is wanted of the log of these segments, and the least fault that stands in it
pub record IsWantedPart (w : Wanted) (end : End) (segments : List Segment) (part : PartLog) (fault : Option PartitionFault) : Type 0 where
  pub log : PartLog
  pub of : IsPartOf end.topic end.partition end.end segments log
  pub wanted : part ≡ wanted_log w log
  pub least : IsFaultIn end.topic end.partition end.end segments fault

-- the front of these segments has so many batches
pub record HasBatches (segments : List Segment) (count : ℕ) : Type 0 where
  pub batches : List Batch
  pub stop : Stop
  pub front : IsFront 0 segments batches stop
  pub counted : count ≡ length batches

-- the leader epochs of the batches of the front of these segments change at these offsets
pub record HasEpochs (segments : List Segment) (entries : List EpochEntry) : Type 0 where
  pub batches : List Batch
  pub stop : Stop
  pub front : IsFront 0 segments batches stop
  pub changes : entries ≡ epoch_entries None batches

-- of each of these partitions, in order
abbrev pub HaveEpochs : List Partition → List (List EpochEntry) → Type 0
HaveEpochs [] [] = ⊤
HaveEpochs [] (es ∷ ess) = ⊥
HaveEpochs (p ∷ ps) [] = ⊥
HaveEpochs (p ∷ ps) (es ∷ ess) = HasEpochs p.segments es × HaveEpochs ps ess

-- the same with the batches of its front, how large these segments are, and where its leader epoch changes
pub record IsTold (w : Wanted) (end : End) (segments : List Segment) (told : Told) : Type 0 where
  pub part : IsWantedPart w end segments told.part told.fault
  pub batches : HasBatches segments told.batches
  pub sizes : AreSized segments told.sizes
  pub epochs : HasEpochs segments told.epochs
