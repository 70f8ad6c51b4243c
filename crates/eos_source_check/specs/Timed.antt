-- The times of those records of a segment that stand at some offsets: each offset that a batch of the segment holds, with the time that
-- the batch gives the record there.
use Rattle.std.specs.Prelude.{◌≡◌, ◌⊎◌, ◌≤◌, ◌-◌, ℕ, ℤ, List, [], ◌∷◌, length, Option, None, Some, if◌then◌else◌}
use Rattle.std.specs.List.{flat_map}
use Rattle.eos_evidence.specs.declared.segment.Segment.{Segment}
use Rattle.eos_fold.specs.Fronts.{base_of}
use Rattle.eos_sought.specs.declared.wanted.Standing.{Standing}
use Rattle.eos_sought.specs.declared.wanted.Wanted.TheVariants.{Holding}
use Rattle.eos_sought.specs.Wanted.{is_wanted}
use Rattle.eos_sought.specs.Places.{IsRun, IsEnd, byte_after, offset_after}
use Rattle.eos_sought.specs.Times.{time_in_bytes}

abbrev pub timed : ℕ → Option ℤ → List (ℕ × ℤ)
timed offset None = []
timed offset (Some time) = (offset, time) ∷ []

-- this offset, if the batch that stands there holds it
abbrev pub timed_by : List ℕ → Standing → ℕ → List (ℕ × ℤ)
timed_by bytes s offset = if is_wanted (Holding offset) s.head then timed offset (time_in_bytes bytes s.byte (offset - s.head.offset)) else []

-- of these offsets those that the batch holds
abbrev pub all_timed_by : List ℕ → List ℕ → Standing → List (ℕ × ℤ)
all_timed_by bytes offsets s = flat_map (timed_by bytes s) offsets

-- one batch after the other, as far as each is a batch that begins where the one before ends
pub record AreTimesIn (segment : Segment) (offsets : List ℕ) (times : List (ℕ × ℤ)) : Type 0 where
  pub all : List Standing
  pub run : IsRun segment.bytes 0 (base_of segment) all
  pub whole : (length segment.bytes ≤ byte_after 0 all) ⊎ IsEnd segment.bytes (byte_after 0 all) (offset_after (base_of segment) all)
  pub are : times ≡ flat_map (all_timed_by segment.bytes offsets) all
