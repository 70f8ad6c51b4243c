-- The times of a segment's records, while the segment is read for them.
use Rattle.std.specs.Prelude.{◌≡◌, ◌≢◌, ℕ, ℤ, ◌≤◌, List, ◌++◌, length, drop, Bool, true, false, Ok, Err}
use Rattle.std.specs.List.{flat_map}
use Rattle.eos_batch.specs.declared.batch.Batch.{Batch}
use Rattle.eos_batch.specs.declared.fault.BatchFault.TheVariants.{Truncated}
use Rattle.eos_batch.specs.Offsets.{offset_of}
use Rattle.eos_batch.specs.Reading.{batch_at}
use Rattle.eos_evidence.specs.declared.segment.Segment.{Segment}
use Rattle.eos_fold.specs.Fronts.{base_of}
use Rattle.eos_sought.specs.declared.wanted.Standing.{Standing}
use Rattle.eos_sought.specs.Places.{IsRun, IsEnd, byte_after, offset_after}
use Rattle.eos_source.specs.Said.{Known}
use Rattle.eos_source_check.specs.declared.timing.Timing.{Timing}
use Rattle.eos_source_check.specs.steps.FaultsAgain.{IsLogOf}
use Rattle.eos_source_check.specs.Timed.{all_timed_by, AreTimesIn}

-- what is asked of a segment: its name, and offsets
pub record AskedView : Type 0 where
  pub begin : ℕ
  pub offsets : List ℕ

-- ---- a buffer

-- behind these bytes begins no batch at this offset, or they are all that are left
abbrev pub EndsSo : List ℕ → List ℕ → ℕ → Bool → Type 0
EndsSo left rest next false = left ≡ rest
EndsSo left rest next true = (batch : Batch) × (size : ℕ) × (batch_at left ≡ Ok (batch, size)) × (offset_of batch ≢ next)

-- the times of the batches that stand in a buffer from its front on, one behind the other, were added
pub record IsTimedOn (buffer offsets rest : List ℕ) (old new : Timing) : Type 0 where
  pub all : List Standing
  pub run : IsRun buffer 0 old.next all
  pub within : byte_after 0 all ≤ length buffer
  pub next : new.next ≡ offset_after old.next all
  pub are : new.times.items ≡ old.times.items ++ flat_map (all_timed_by buffer offsets) all
  pub ends : EndsSo (drop (byte_after 0 all) buffer) rest new.next new.is_ended

-- ---- what was fed

-- behind them further bytes are waited for, or no batch goes on there, whatever follows
abbrev pub WaitsSo : List ℕ → List ℕ → ℕ → ℕ → Bool → Type 0
WaitsSo fed waiting at next false = (drop at fed ≡ waiting) × (batch_at waiting ≡ Err Truncated)
WaitsSo fed waiting at next true = (batch_at (drop at fed) ≢ Err Truncated) × IsEnd fed at next

pub record IsTiming (asked : AskedView) (fed waiting : List ℕ) (w : Timing) : Type 0 where
  pub all : List Standing
  pub run : IsRun fed 0 asked.begin all
  pub within : byte_after 0 all ≤ length fed
  pub next : w.next ≡ offset_after asked.begin all
  pub are : w.times.items ≡ flat_map (all_timed_by fed asked.offsets) all
  pub ends : WaitsSo fed waiting (byte_after 0 all) w.next w.is_ended

-- ---- all bytes

-- they are those of a segment of that name with these bytes
abbrev pub IsTimedBy : AskedView → List ℕ → List (ℕ × ℤ) → Type 0
IsTimedBy asked bytes times = (segment : Segment) → base_of segment ≡ asked.begin → segment.bytes ≡ bytes → AreTimesIn segment asked.offsets times

-- of a log of which so much is known
pub record IsTimedAgain (known : Known) (asked : AskedView) (times : List (ℕ × ℤ)) : Type 0 where
  pub bytes : List ℕ
  pub log : IsLogOf known bytes
  pub are : IsTimedBy asked bytes times
