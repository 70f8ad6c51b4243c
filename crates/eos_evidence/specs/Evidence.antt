-- The evidence: a spec and, for each of its ends in order, a partition's log as a list of segments.
-- A segment file of a log is named by the offset of its first record, its base (Kafka's log folders).
use Rattle.std.specs.Prelude.{◌≡◌, ◌≤◌, ◌^◌, ℕ, ℤ, pos, ◌≤ℤ◌, ◌<ℤ◌, List, [], ◌∷◌, Bool, true, ◌&&◌, ◌||◌, if◌then◌else◌, nat_lt, nat_le, int_lt, length, map, flat_map, find, bytes_eq, Option, None, Some, Result, Ok, Err, IsOk}
use Rattle.std.specs.List.{list_any, AllByRecursion}
use Rattle.std.specs.List.Sorted.{IsStrictlySortedBy}
use Rattle.std.specs.Ordering.{int_cmp, int_eq, on}
use Rattle.eos_evidence.specs.declared.ends.End.{End}
use Rattle.eos_evidence.specs.declared.segment.Segment.{Segment}
use Rattle.eos_evidence.specs.declared.partition.Partition.{Partition}
use Rattle.eos_evidence.specs.declared.fault.AddFault.{AddFault}
use Rattle.eos_evidence.specs.declared.fault.AddFault.TheVariants as faults
use Rattle.eos_evidence.specs.SpecFields.{SpecFields, IsAccepted}

pub record EvidenceParts : Type 0 where
  pub spec : SpecFields
  pub partitions : List Partition

-- the segment is one of this partition
abbrev pub is_in : Segment → End → Bool
is_in segment e = bytes_eq segment.topic e.topic && int_eq segment.partition e.partition

-- the names of the segments rise
abbrev pub IsRising : List Segment → Type 0
IsRising = IsStrictlySortedBy (on (λ s. s.base) int_cmp)

-- what holds of a segment of a partition
pub record IsOwn (e : End) (segment : Segment) : Type 0 where
  pub named : is_in segment e ≡ true
  pub base : pos 0 ≤ℤ segment.base
  pub width : segment.base <ℤ pos (2 ^ 63)
  pub size : length segment.bytes ≤ 2 ^ 30

pub record IsPartition (partition : Partition) : Type 0 where
  pub own : AllByRecursion (IsOwn partition.end) partition.segments
  pub rising : IsRising partition.segments

-- all segments, by partition, then base
abbrev pub segments_of : List Partition → List Segment
segments_of = flat_map (λ p. p.segments)

-- a partition for each end, in the spec's order, each with its own segments under rising names
pub record IsEvidence (evidence : EvidenceParts) : Type 0 where
  pub accepted : IsAccepted evidence.spec
  pub ends : map (λ p. p.end) evidence.partitions ≡ evidence.spec.ends
  pub each : AllByRecursion IsPartition evidence.partitions
  pub few : length (segments_of evidence.partitions) ≤ 65536

-- no segments yet
abbrev pub empty_partition : End → Partition
empty_partition e = record { end = e; segments = [] }

abbrev pub without_segments : SpecFields → EvidenceParts
without_segments spec = record { spec = spec; partitions = map empty_partition spec.ends }

-- a segment of this base is there
abbrev pub has_base : ℤ → List Segment → Bool
has_base base = list_any (λ s. int_eq s.base base)

-- these segments, with one more before the first whose base is greater
unfoldable pub insert_segment : Segment → List Segment → List Segment
insert_segment s [] = s ∷ []
insert_segment s (t ∷ ts) = if int_lt s.base t.base then s ∷ t ∷ ts else t ∷ insert_segment s ts

abbrev pub with_segment : Segment → Partition → Partition
with_segment s p = if is_in s p.end then record p { segments = insert_segment s p.segments } else p

-- the segment is too long, or there are as many as there may be
abbrev pub is_past_limit : EvidenceParts → Segment → Bool
is_past_limit evidence s = nat_lt (2 ^ 30) (length s.bytes) || nat_le 65536 (length (segments_of evidence.partitions))

-- the evidence with one segment more in this partition, or the first refusal
abbrev pub added_to : EvidenceParts → Segment → Option Partition → Result EvidenceParts AddFault
added_to evidence s None = Err faults.Name
added_to evidence s (Some p) =
    if int_lt s.base (pos 0) then Err faults.Name
    else (if is_past_limit evidence s then Err faults.Limit
    else (if has_base s.base p.segments then Err faults.Duplicate
    else Ok (record evidence { partitions = map (with_segment s) evidence.partitions })))

unfoldable pub added : EvidenceParts → Segment → Result EvidenceParts AddFault
added evidence s = added_to evidence s (find (λ p. is_in s p.end) evidence.partitions)

-- the evidence has this many segments
pub record IsCounted (evidence : EvidenceParts) (count : ℕ) : Type 0 where
  pub evidence_is : IsEvidence evidence
  pub count_is : count ≡ length (segments_of evidence.partitions)

-- a call answers what `added` gives: want of memory comes last, in place of the evidence with the segment
abbrev pub AddAnswers : Result (Unit {0}) AddFault → EvidenceParts → Result EvidenceParts AddFault → Type 0
AddAnswers (Ok done) after said = said ≡ Ok after
AddAnswers (Err faults.Name) after said = said ≡ Err faults.Name
AddAnswers (Err faults.Limit) after said = said ≡ Err faults.Limit
AddAnswers (Err faults.Duplicate) after said = said ≡ Err faults.Duplicate
AddAnswers (Err faults.OutOfMemory) after said = IsOk said
