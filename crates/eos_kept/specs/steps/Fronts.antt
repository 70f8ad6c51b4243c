-- The front of all segments of a partition, begun at 0, and the records that are kept of it.
use Rattle.std.specs.Prelude.{◌≡◌, ℕ, not, List, [], map, Option, Some, None}
use Rattle.std.specs.List.{flat_map}
use Rattle.eos_batch.specs.declared.batch.Batch.{Batch}
use Rattle.eos_batch.specs.declared.record.Record.{Record}
use Rattle.eos_fold.specs.Batches.{DataBatch}
use Rattle.eos_evidence.specs.declared.segment.Segment.{Segment}
use Rattle.eos_evidence.specs.declared.ends.End.{End}
use Rattle.eos_evidence.specs.Topics.{is_internal}
use Rattle.eos_fold.specs.Settling.{data_in}
use Rattle.eos_fold.specs.Fronts.{IsFront}
use Rattle.eos_fold.specs.Standing.{AreOf}
use Rattle.eos_reading.specs.Epochs.{epoch_entries}
use Rattle.eos_kept.specs.declared.front.Front.{Front}
use Rattle.eos_kept.specs.declared.sizes.Sizes.{Sizes}
use Rattle.eos_kept.specs.Kept.{KeptView, KeepsFront, IsFrontOf}
use Rattle.eos_kept.specs.Passing.{HoldsEach}
use Rattle.eos_kept.specs.Sizes.{AreSized}
use Rattle.eos_reading.specs.declared.wanted.Wanted.{Wanted}
use Rattle.eos_reading.specs.Records.{wanted_record}
use Rattle.eos_kept.specs.declared.records.Records.{Records}
use Rattle.eos_kept.specs.declared.part.Told.{Told}
use Rattle.eos_kept.specs.Parts.{IsTold}
use Rattle.eos_kept.specs.Records.{records_in}

-- the records of data batches, in order
abbrev pub records_of : List DataBatch → List Record
records_of ds = flat_map (λ d. d.records) ds

-- these are the records of these batches, as far as they are wanted
abbrev pub AreWanted : Wanted → List Batch → Records → Type 0
AreWanted w batches kept = records_in kept ≡ map (wanted_record w) (records_of (data_in batches))

-- the front of these segments with its records, or there are none
abbrev pub AreRead : Wanted → List Segment → Option Front → Records → Type 0
AreRead w segments None kept = (segments ≡ []) × AreWanted w [] kept
AreRead w segments (Some front) kept = (batches : List Batch) × IsFrontOf segments batches front × AreWanted w batches kept

-- a value is kept for each data record of the front, or there are none
abbrev pub AreEach : {K : Type 0} → Option Front → List K → Type 0
AreEach None kept = kept ≡ []
AreEach (Some front) kept = HoldsEach front kept

-- the front, begun at 0, of all segments of a partition
pub record IsWholeFront (segments : List Segment) (batches : List Batch) (f : Front) : Type 0 where
  pub begin : f.begin ≡ 0
  pub front : IsFront 0 segments batches f.stop
  pub keeps : KeepsFront batches f
  pub epochs : f.epochs.items ≡ epoch_entries None batches

-- the same with its records
pub record AreWhole (w : Wanted) (segments : List Segment) (f : Front) (kept : Records) : Type 0 where
  pub batches : List Batch
  pub whole : IsWholeFront segments batches f
  pub wanted : AreWanted w batches kept

-- sequences are checked, but in the internal topics
abbrev pub IsChecked : List ℕ → Front → Type 0
IsChecked topic f = f.run.sequenced ≡ not (is_internal topic)

-- what is kept of segments, or of none, taken apart
abbrev pub IsApart : {K : Type 0} → Option (KeptView K) → Option Front → List K → Sizes → Type 0
IsApart None front kept sizes = (front ≡ None) × (kept ≡ []) × AreSized [] sizes
IsApart (Some run) front kept sizes = (front ≡ Some run.front) × (kept ≡ run.kept) × (sizes ≡ run.sizes)

-- what is wanted of the log of the segments of this front, and what is said of their bytes
abbrev pub IsPartFrom : End → Option Front → Records → Sizes → Told → Type 0
IsPartFrom end front kept sizes told = (w : Wanted) (segments : List Segment) → AreRead w segments front kept → AreSized segments sizes → AreOf end.topic end.partition segments → IsTold w end segments told
