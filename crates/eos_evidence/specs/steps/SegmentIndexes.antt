-- Where a segment goes: its partition, and its index among the segments there.
use Rattle.std.specs.Prelude.{◌≡◌, ◌<◌, ◌≤◌, ◌+◌, ℕ, ℤ, pos, List, true, false, int_lt, length, take, insert, slice_index, slice_index_or, FitsSigned}
use Rattle.std.specs.Int.{w64}
use Rattle.eos_evidence.specs.declared.ends.End.{End}
use Rattle.eos_evidence.specs.declared.segment.Segment.{Segment}
use Rattle.eos_evidence.specs.declared.partition.Partition.{Partition}
use Rattle.eos_evidence.specs.Evidence.{EvidenceParts, IsCounted, is_in, is_past_limit, has_base, insert_segment, segments_of}

-- the segment's partition, as an end is compared with it
abbrev pub own_end : Segment → End
own_end s = record { topic = s.topic; partition = s.partition; end = s.base }

-- no segment has the base, and one that has it goes to this index
pub record IsIndexFor (base : ℤ) (segments : List Segment) (at : ℕ) : Type 0 where
  pub within : at ≤ length segments
  pub absent : has_base base segments ≡ false
  pub inserts : (s : Segment) → s.base ≡ base → insert segments at s ≡ insert_segment s segments

-- the first partition of the segment's name stands at this index
pub record IsFirst (s : Segment) (ps : List Partition) (at : ℕ) : Type 0 where
  pub within : at < length ps
  pub here : (d : Partition) → is_in s (slice_index_or ps at d).end ≡ true
  pub before : (k : ℕ) (d : Partition) → k < at → is_in s (slice_index_or ps k d).end ≡ false

-- nothing but a segment of the same base stands against the segment
pub record MayTake (evidence : EvidenceParts) (s : Segment) (at : ℕ) : Type 0 where
  pub first : IsFirst s evidence.partitions at
  pub base : int_lt s.base (pos 0) ≡ false
  pub fits : FitsSigned w64 s.base
  pub within : is_past_limit evidence s ≡ false

-- the index of each partition's first segment among all
pub record AreFirsts (firsts : List ℕ) (ps : List Partition) : Type 0 where
  pub as_many : length firsts ≡ length ps
  pub each : (k : ℕ) → k < length ps → slice_index firsts k ≡ length (segments_of (take k ps))

-- the last of the rising indexes that isn't after this one
pub record IsLastFrom (firsts : List ℕ) (i at : ℕ) : Type 0 where
  pub within : at < length firsts
  pub from : slice_index firsts at ≤ i
  pub next : at + 1 < length firsts → i < slice_index firsts (at + 1)

pub record IsBuilt (evidence : EvidenceParts) (firsts : List ℕ) (count : ℕ) : Type 0 where
  pub counted : IsCounted evidence count
  pub as_many : length firsts ≡ length evidence.partitions

pub record IsFinished (evidence : EvidenceParts) (firsts : List ℕ) (count : ℕ) : Type 0 where
  pub counted : IsCounted evidence count
  pub firsts_are : AreFirsts firsts evidence.partitions
