-- What is kept of a list of segments: its front, begun at the name of its first segment, told without the records; of each
-- data record of the front what a reading keeps; and how large the segments are. It is today's summary of the same segments,
-- less the records.
use Rattle.std.specs.Prelude.{◌≡◌, ℕ, ◌+◌, ◌≤◌, ◌^◌, List, length, None}
use Rattle.eos_batch.specs.declared.batch.Batch.{Batch}
use Rattle.eos_batch.specs.declared.record.Record.{Record}
use Rattle.eos_batch.specs.Marker.{markers_of}
use Rattle.eos_evidence.specs.declared.segment.Segment.{Segment}
use Rattle.eos_touch.specs.Front.{records_in}
use Rattle.eos_fold.specs.Fronts.{IsFront}
use Rattle.eos_fold.specs.Sums.{BeginsAt, AreChecked}
use Rattle.eos_reading.specs.Epochs.{epoch_entries}
use Rattle.eos_reading.specs.Kept.{kept_of}
use Rattle.eos_kept.specs.Runs.{IsRunOf, SameRun}
use Rattle.eos_kept.specs.declared.front.Front.{Front}
use Rattle.eos_kept.specs.declared.sizes.Sizes.{Sizes}
use Rattle.eos_kept.specs.Sizes.{AreSized}

-- what is known of the batches of a front
pub record KeepsFront (batches : List Batch) (f : Front) : Type 0 where
  pub next : f.next ≡ f.begin + records_in batches
  pub fits : f.next ≤ 2 ^ 63
  pub counted : f.batches ≡ length batches
  pub markers : f.markers.items ≡ markers_of batches
  pub run : IsRunOf batches f.run

-- the front of these segments, which is these batches, and the offsets at which their leader epochs change
pub record IsFrontOf (segments : List Segment) (batches : List Batch) (f : Front) : Type 0 where
  pub begins : BeginsAt segments f.begin
  pub sequenced : AreChecked segments f.run.sequenced
  pub front : IsFront f.begin segments batches f.stop
  pub keeps : KeepsFront batches f
  pub epochs : f.epochs.items ≡ epoch_entries None batches

-- a front, what is kept of its data records, and how large its segments are
pub record KeptView (K : Type 0) : Type 0 where
  pub front : Front
  pub kept : List K
  pub sizes : Sizes

-- what is kept of these segments
pub record IsKept {K : Type 0} (keep : ℕ → Record → K) (segments : List Segment) (v : KeptView K) : Type 0 where
  pub batches : List Batch
  pub front : IsFrontOf segments batches v.front
  pub kept : v.kept ≡ kept_of keep batches
  pub sizes : AreSized segments v.sizes

-- the same is known; there may be more room
pub record SameFront (f g : Front) : Type 0 where
  pub begin : g.begin ≡ f.begin
  pub next : g.next ≡ f.next
  pub stop : g.stop ≡ f.stop
  pub batches : g.batches ≡ f.batches
  pub markers : g.markers.items ≡ f.markers.items
  pub epochs : g.epochs.items ≡ f.epochs.items
  pub run : SameRun f.run g.run

pub record SameKept {K : Type 0} (v w : KeptView K) : Type 0 where
  pub front : SameFront v.front w.front
  pub kept : w.kept ≡ v.kept
  pub sizes : w.sizes ≡ v.sizes
