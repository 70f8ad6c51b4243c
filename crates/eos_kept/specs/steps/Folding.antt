-- A segment's front as far as its bytes were fed.
use Rattle.std.specs.Prelude.{◌≡◌, ◌≢◌, ◌⊎◌, ℕ, ◌+◌, Bool, List, length, None, Err}
use Rattle.eos_batch.specs.declared.batch.Batch.{Batch}
use Rattle.eos_batch.specs.declared.record.Record.{Record}
use Rattle.eos_batch.specs.declared.fault.BatchFault.TheVariants as faults
use Rattle.eos_batch.specs.declared.fault.BatchFault.{BatchFault}
use Rattle.eos_batch.specs.Reading.{batch_at}
use Rattle.eos_batch.specs.Segment.{Splits}
use Rattle.eos_fold.specs.declared.stop.Stop.{Stop}
use Rattle.eos_fold.specs.declared.stop.Stop.TheVariants.{AtEnd, NoBatch, Elsewhere}
use Rattle.eos_fold.specs.Fronts.{StopsAt}
use Rattle.eos_reading.specs.declared.epoch.EpochEntry.{EpochEntry}
use Rattle.eos_reading.specs.Epochs.{epoch_entries}
use Rattle.eos_reading.specs.Kept.{kept_of}
use Rattle.eos_kept.specs.declared.front.Front.{Front}
use Rattle.eos_kept.specs.Passing.{GoesAlong}

-- the front, the leader epochs of its batches, what is kept of their data records, and how many bytes were taken: up to the last
-- batch, or behind the front's end all
pub record FoldView (K : Type 0) : Type 0 where
  pub front : Front
  pub epochs : List EpochEntry
  pub kept : List K
  pub place : ℕ

-- bytes may follow those that wait; or none of those that follow changes why the front ends
abbrev pub IsOpenAt : Stop → Front → ℕ → List ℕ → List ℕ → List ℕ → Type 0
IsOpenAt AtEnd f place fed rest waiting = (waiting ≡ rest) × (batch_at rest ≡ Err faults.Truncated) × (place + length rest ≡ length fed)
IsOpenAt (NoBatch segment byte fault) f place fed rest waiting = StopsAt f.begin f.next fed rest (NoBatch segment byte fault) × (fault ≢ faults.Truncated)
IsOpenAt (Elsewhere found) f place fed rest waiting = StopsAt f.begin f.next fed rest (Elsewhere found)

-- the front of a segment of this name, of which these bytes were fed, wherever they were cut
pub record IsFolding {K : Type 0} (keep : ℕ → Record → K) (begin : ℕ) (sequenced : Bool) (fed waiting : List ℕ) (v : FoldView K) : Type 0 where
  pub begins : v.front.begin ≡ begin
  pub sequenced_is : v.front.run.sequenced ≡ sequenced
  pub batches : List Batch
  pub rest : List ℕ
  pub texts : Splits fed batches rest
  pub along : GoesAlong batches v.front
  pub epochs_are : v.epochs ≡ epoch_entries None batches
  pub kept_is : v.kept ≡ kept_of keep batches
  pub taken : v.place + length waiting ≡ length fed
  pub ends : IsOpenAt v.front.stop v.front v.place fed rest waiting

-- the front ends at this byte where no batch stands there and none can; only its stop changes
pub record EndsAt (place : ℕ) (fault : BatchFault) (f g : Front) : Type 0 where
  pub begin : g.begin ≡ f.begin
  pub next : g.next ≡ f.next
  pub batches : g.batches ≡ f.batches
  pub markers : g.markers ≡ f.markers
  pub run : g.run ≡ f.run
  pub stop : ((f.stop ≢ AtEnd) × (g.stop ≡ f.stop)) ⊎ (((fault ≡ faults.Truncated) × (g.stop ≡ f.stop)) ⊎ ((f.stop ≡ AtEnd) × (fault ≢ faults.Truncated) × (g.stop ≡ NoBatch f.begin place fault)))

-- the front ends at this byte where so many bytes wait and none follow; only its stop changes
pub record CutsAt (place waiting : ℕ) (f g : Front) : Type 0 where
  pub begin : g.begin ≡ f.begin
  pub next : g.next ≡ f.next
  pub batches : g.batches ≡ f.batches
  pub markers : g.markers ≡ f.markers
  pub run : g.run ≡ f.run
  pub stop : ((waiting ≡ 0) × (g.stop ≡ f.stop)) ⊎ (((f.stop ≢ AtEnd) × (g.stop ≡ f.stop)) ⊎ ((f.stop ≡ AtEnd) × (waiting ≢ 0) × (g.stop ≡ NoBatch f.begin place faults.Truncated)))
