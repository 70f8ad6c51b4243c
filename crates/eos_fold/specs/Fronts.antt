-- The front of a list of segments, begun at an offset: the longest list of batches from the start in which each text is a
-- batch, each base offset is the number of records before it, counted from there, and each segment that is begun has that
-- number as its name. And why it ends.
-- Source: Kafka's documentation, "Log" (a partition's segments are named by the offset of their first record) and Message
-- Format, "Record Batch" (baseOffset, lastOffsetDelta). That offsets have no gaps is this project's own profile.
use Rattle.std.specs.Prelude.{◌≡◌, ◌≢◌, ℕ, ◌+◌, ◌⊎◌, unsigned_abs, List, [], ◌∷◌, ◌++◌, length, Err}
use Rattle.eos_batch.specs.declared.batch.Batch.{Batch}
use Rattle.eos_batch.specs.Reading.{batch_at}
use Rattle.eos_batch.specs.Segment.{Splits}
use Rattle.eos_evidence.specs.declared.segment.Segment.{Segment}
use Rattle.eos_fold.specs.declared.stop.Stop.{Stop}
use Rattle.eos_fold.specs.declared.stop.Stop.TheVariants.{AtEnd, NoBatch, Elsewhere}
use Rattle.eos_batch.specs.Offsets.{offset_of}
use Rattle.eos_touch.specs.Front.{records_in, ContinuesFrom, IsNext}

-- a segment's name
abbrev pub base_of : Segment → ℕ
base_of s = unsigned_abs s.base

-- why the front of a segment ends before the rest of its bytes; next is the offset after its last record
abbrev pub StopsAt : ℕ → ℕ → List ℕ → List ℕ → Stop → Type 0
StopsAt base next bytes rest AtEnd = rest ≡ []
StopsAt base next bytes rest (NoBatch segment byte fault) = (rest ≢ []) × (batch_at rest ≡ Err fault) × (segment ≡ base) × (byte + length rest ≡ length bytes)
StopsAt base next bytes rest (Elsewhere found) = (b : Batch) × IsNext rest b × (found ≡ offset_of b) × (found ≢ next)

-- the front of the segment of this name
pub record IsSegmentFront (base : ℕ) (bytes : List ℕ) (batches : List Batch) (stop : Stop) : Type 0 where
  pub rest : List ℕ
  pub texts : Splits bytes batches rest
  pub continuous : ContinuesFrom base batches
  pub stops : StopsAt base (base + records_in batches) bytes rest stop

-- behind a segment's front, which ends so, stand the further segments, or nothing
abbrev pub GoesOn : Stop → List Batch → (List Batch → Type 0) → List Batch → Stop → Type 0
GoesOn AtEnd inside Others batches stop = (others : List Batch) × (batches ≡ inside ++ others) × Others others
GoesOn (NoBatch segment byte fault) inside Others batches stop = (batches ≡ inside) × (stop ≡ NoBatch segment byte fault)
GoesOn (Elsewhere found) inside Others batches stop = (batches ≡ inside) × (stop ≡ Elsewhere found)

abbrev pub IsFront : ℕ → List Segment → List Batch → Stop → Type 0
IsFront at [] batches stop = (batches ≡ []) × (stop ≡ AtEnd)
IsFront at (s ∷ ss) batches stop =
    ((base_of s ≢ at) × (batches ≡ []) × (stop ≡ Elsewhere (base_of s)))
    ⊎ ((base_of s ≡ at) × (inside : List Batch) × (inner : Stop) × IsSegmentFront at s.bytes inside inner
    × GoesOn inner inside (λ others. IsFront (at + records_in inside) ss others stop) batches stop)
