-- The times of a segment's records at offsets that rise.
use Rattle.std.specs.Prelude.{◌<◌, ◌≤◌, ◌-◌, ℕ, ℤ, List, [], length, if◌then◌else◌, slice_get, slice_index}
use Rattle.eos_batch.specs.declared.batch.Batch.{Batch}
use Rattle.eos_sought.specs.declared.wanted.Standing.{Standing}
use Rattle.eos_sought.specs.declared.wanted.Wanted.TheVariants.{Holding}
use Rattle.eos_sought.specs.Times.{time_of_one}
use Rattle.eos_sought.specs.Wanted.{is_wanted}
use Rattle.eos_source_check.specs.Timed.{timed}

-- so many at the front are below this offset
abbrev pub AreBelow : List ℕ → ℕ → ℕ → Type 0
AreBelow offsets count bound = (k : ℕ) → k < count → slice_index offsets k < bound

-- and the others aren't
abbrev pub AreFrom : List ℕ → ℕ → ℕ → Type 0
AreFrom offsets count bound = (k : ℕ) → count ≤ k → k < length offsets → bound ≤ slice_index offsets k

-- this offset with its time, if the batch that stands there holds it
abbrev pub timed_of : Batch → Standing → ℕ → List (ℕ × ℤ)
timed_of batch s offset = if is_wanted (Holding offset) s.head then timed offset (time_of_one batch (slice_get batch.records (offset - s.head.offset))) else []
