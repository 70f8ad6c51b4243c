-- The front of a segment that is taken as a whole partition: the longest list of its batches from the start in which
-- each base offset is that of the first batch plus the number of records before.
-- Source: Kafka's documentation, "Log" (a segment is a run of record batches) and Message Format, "Record Batch"
-- (baseOffset, lastOffsetDelta). That offsets have no gaps is this project's own profile.
use Rattle.std.specs.Prelude.{◌≡◌, ℕ, ◌+◌, pos, List, [], ◌∷◌, ◌++◌, length, ⊤}
use Rattle.eos_batch.specs.declared.batch.Batch.{Batch}
use Rattle.eos_batch.specs.Offsets.{offset_of}
use Rattle.eos_batch.specs.Text.{IsBatchText}
use Rattle.eos_batch.specs.Segment.{Splits}

abbrev pub records_in : List Batch → ℕ
records_in [] = 0
records_in (b ∷ bs) = length b.records + records_in bs

-- where a segment is taken to begin: at its first batch's base offset, and at 0 where there is none
abbrev pub begin_of : List Batch → ℕ
begin_of [] = 0
begin_of (b ∷ bs) = offset_of b

-- the offset after the last record of these
abbrev pub next_offset : List Batch → ℕ
next_offset batches = begin_of batches + records_in batches

-- each base offset is this one plus the number of records before
abbrev pub ContinuesFrom : ℕ → List Batch → Type 0
ContinuesFrom at [] = ⊤
ContinuesFrom at (b ∷ bs) = (b.base_offset ≡ pos at) × ContinuesFrom (at + length b.records) bs

-- without a gap
abbrev pub IsContinuous : List Batch → Type 0
IsContinuous batches = ContinuesFrom (begin_of batches) batches

-- The front or a beginning of it: the bytes are texts of these batches without a gap, and the rest.
pub record IsBeginning (bytes : List ℕ) (batches : List Batch) (rest : List ℕ) : Type 0 where
  pub texts : Splits bytes batches rest
  pub continuous : IsContinuous batches

-- a text of this batch begins the bytes
abbrev pub IsNext : List ℕ → Batch → Type 0
IsNext bytes b = (text more : List ℕ) × IsBatchText text b × (bytes ≡ text ++ more)
