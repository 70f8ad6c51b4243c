-- What answers the questions that a story is asked: rows among its others.
use Rattle.std.specs.Prelude.{◌≡◌, ◌≢◌, ◌<◌, ⊤, ℕ, ◌+◌, ◌-◌, ℤ, List, [], ◌∷◌, ◌++◌, length, take, drop, count_by, nat_le, nat_lt, Option, Some, None, slice_get}
use Rattle.eos_base.specs.declared.partition_name.PartitionName.{PartitionName}
use Rattle.eos_base.specs.Members.{Has}
use Rattle.eos_batch.specs.declared.record.Header.{Header}
use Rattle.eos_claims.specs.declared.place.Place.{Place}
use Rattle.eos_claims.specs.Headers.{values_of}
use Rattle.eos_evidence.specs.declared.partition.Partition.{Partition}
use Rattle.eos_evidence.specs.declared.segment.Segment.{Segment}
use Rattle.eos_fold.specs.Fronts.{base_of}
use Rattle.eos_fold.specs.Parts.{PartLog}
use Rattle.eos_sought.specs.declared.partition.Placed.{Placed}
use Rattle.eos_sought.specs.declared.wanted.Wanted.{Wanted}
use Rattle.eos_sought.specs.declared.wanted.Wanted.TheVariants.{Holding, Ending}
use Rattle.eos_sought.specs.Partitions.{partition_named, AreBatchesOf}
use Rattle.eos_sought.specs.declared.finding.Find.{Find}
use Rattle.eos_sought.specs.declared.sought.Sought.{Sought}
use Rattle.eos_sought.specs.declared.sought.Sought.TheVariants.{At, Deciding}
use Rattle.eos_sought.specs.Finds.{all_of}
use Rattle.eos_story.specs.declared.headers.HeaderName.{HeaderName}
use Rattle.eos_story.specs.declared.headers.HeaderName.TheVariants.{Topic, Partition as Number, Offset, Output, Of}
use Rattle.eos_story.specs.declared.row.Row.{Row}
use Rattle.eos_story.specs.declared.row.Row.TheVariants as rows
use Rattle.eos_story.specs.HeaderNames.{key_of}
use Rattle.eos_story.specs.Rows.{AreHeadersOf}
use Rattle.eos_story.specs.Questions.{Question, Records, Latest, Claims, Headers, FirstBatch, Batches, Listed, Around, Ends}

-- each of these has a row of its own, behind the row of the one before
abbrev pub StandInOrder : {X : Type 0} → (X → Row → Type 0) → List X → List Row → Type 0
StandInOrder IsRowOf [] told = ⊤
StandInOrder IsRowOf (x ∷ xs) told = (before : List Row) × (row : Row) × (after : List Row) × (told ≡ before ++ row ∷ after) × IsRowOf x row × StandInOrder IsRowOf xs after

-- ---- records

abbrev pub IsRecordRow : Sought → Find → Row → Type 0
IsRecordRow sought find row = (spot : Option Placed) × (row ≡ rows.Record sought find spot)

-- these of all records that are sought have rows, in order; where there are more, a row says how many there are, and where there
-- is none, one says so
pub record AreShown (sought : Sought) (shown : ℕ) (these all : List Find) (told : List Row) : Type 0 where
  pub in_order : StandInOrder (IsRecordRow sought) these told
  pub more : shown < length all → Has told (rows.MoreRecords shown (length all) sought)
  pub none : length all ≡ 0 → Has told (rows.NoRecord sought)

abbrev pub AreFirstShown : List PartLog → Sought → ℕ → List Row → Type 0
AreFirstShown logs sought most told = AreShown sought most (take most (all_of sought logs)) (all_of sought logs) told

abbrev pub AreLastShown : List PartLog → Sought → ℕ → List Row → Type 0
AreLastShown logs sought most told = AreShown sought most (drop (length (all_of sought logs) - most) (all_of sought logs)) (all_of sought logs) told

-- ---- batches

abbrev pub IsBatchRow : PartitionName → Wanted → Placed → Row → Type 0
IsBatchRow name wanted placed row = row ≡ rows.Batch name wanted placed

abbrev pub IsFirstShown : PartitionName → Wanted → List Row → Type 0
IsFirstShown name wanted told = (placed : Option Placed) × Has told (rows.First name wanted placed)

-- the first of the batches that are wanted have rows, in order; where there are more, a row says how many there are
pub record AreBatchesShown (partitions : List Partition) (name : PartitionName) (wanted : Wanted) (most : ℕ) (told : List Row) : Type 0 where
  pub found : List Placed
  pub are : AreBatchesOf partitions name wanted found
  pub in_order : StandInOrder (IsBatchRow name wanted) (take most found) told
  pub more : most < length found → Has told (rows.MoreBatches name wanted most (length found))

-- how many of these begin below an offset
abbrev pub count_below : ℕ → List Placed → ℕ
count_below offset found = count_by (λ (p : Placed). nat_lt p.standing.head.offset offset) found

-- the two before an offset, and the three from it on
abbrev pub around : ℕ → List Placed → List Placed
around offset found = drop (count_below offset found - 2) (take (count_below offset found + 3) found)

-- these have rows, in order; where there are more, a row says how many there are
pub record AreAroundShown (partitions : List Partition) (name : PartitionName) (wanted : Wanted) (offset : ℕ) (told : List Row) : Type 0 where
  pub found : List Placed
  pub are : AreBatchesOf partitions name wanted found
  pub in_order : StandInOrder (IsBatchRow name wanted) (around offset found) told
  pub more : length (around offset found) < length found → Has told (rows.MoreBatches name wanted (length (around offset found)) (length found))

-- ---- claims

abbrev pub IsDecided : List PartLog → ℤ → Option Placed → List Row → Type 0
IsDecided logs producer None told = ⊤
IsDecided logs producer (Some marker) told = AreFirstShown logs (Deciding producer marker.standing.head.epoch) 1 told

-- the next end marker of a producer id, or that there is none; and the decision of the marker
abbrev pub IsEndingShown : List PartLog → PartitionName → ℤ → ℕ → List Row → Type 0
IsEndingShown logs name producer offset told =
    (marker : Option Placed) × Has told (rows.First name (Ending producer offset) marker) × IsDecided logs producer marker told

abbrev pub IsEndShown : List PartLog → PartitionName → ℕ → Option (ℤ × ℤ) → List Row → Type 0
IsEndShown logs name offset None told = ⊤
IsEndShown logs name offset (Some writer) told = IsEndingShown logs name writer.0 offset told

-- of each of these records that of its transaction, if it is in one
abbrev pub AreEndsShown : List PartLog → List Find → List Row → Type 0
AreEndsShown logs [] told = ⊤
AreEndsShown logs (find ∷ finds) told = IsEndShown logs find.partition find.item.offset find.item.writer told × AreEndsShown logs finds told

-- ---- headers

abbrev pub IsHeaderRow : Place → List Header → HeaderName → Row → Type 0
IsHeaderRow place headers name row = row ≡ rows.Header place name (values_of (key_of name) headers)

abbrev pub header_names : List HeaderName
header_names = Topic ∷ (Number ∷ (Offset ∷ (Output ∷ (Of ∷ []))))

pub record AreHeadersTold (partitions : List Partition) (place : Place) (told : List Row) : Type 0 where
  pub headers : List Header
  pub of : AreHeadersOf partitions place headers
  pub in_order : StandInOrder (IsHeaderRow place headers) header_names told

abbrev pub AreHeadersShown : List Partition → Place → Option Find → List Row → Type 0
AreHeadersShown ps place None told = ⊤
AreHeadersShown ps place (Some find) told = AreHeadersTold ps place told

-- ---- the end of a partition

abbrev pub count_begun : ℕ → List Segment → ℕ
count_begun offset segments = count_by (λ (s : Segment). nat_le (base_of s) offset) segments

-- the last that begins there or before, the one before it, and the next
abbrev pub segments_around : ℕ → List Segment → List Segment
segments_around offset segments = drop (count_begun offset segments - 2) (take (count_begun offset segments + 1) segments)

abbrev pub IsSegmentRow : PartitionName → Segment → Row → Type 0
IsSegmentRow name s row = row ≡ rows.Segment name (base_of s) (length s.bytes)

-- these have rows, in order; where there are more, a row says how many there are
pub record AreSegmentsAround (name : PartitionName) (offset : ℕ) (segments : List Segment) (told : List Row) : Type 0 where
  pub in_order : StandInOrder (IsSegmentRow name) (segments_around offset segments) told
  pub more : length (segments_around offset segments) < length segments → Has told (rows.MoreSegments name (length (segments_around offset segments)) (length segments))

abbrev pub AreSegmentsShown : PartitionName → ℕ → Option Partition → List Row → Type 0
AreSegmentsShown name offset None told = ⊤
AreSegmentsShown name offset (Some p) told = Has told (rows.End name p.end.end) × AreSegmentsAround name offset p.segments told

pub record AreEndsOfShown (partitions : List Partition) (name : PartitionName) (offset : ℕ) (told : List Row) : Type 0 where
  pub last : offset ≢ 0 → IsFirstShown name (Holding (offset - 1)) told
  pub segments : AreSegmentsShown name offset (partition_named name partitions) told

-- ---- all

abbrev pub Answers : List Partition → List PartLog → List Row → Question → Type 0
Answers ps logs told (Records sought most) = AreFirstShown logs sought most told
Answers ps logs told (Latest sought most) = AreLastShown logs sought most told
Answers ps logs told (Claims sought most) = AreFirstShown logs sought most told × AreEndsShown logs (take most (all_of sought logs)) told
Answers ps logs told (Headers place) = AreHeadersShown ps place (slice_get (all_of (At place) logs) 0) told
Answers ps logs told (FirstBatch name wanted) = IsFirstShown name wanted told
Answers ps logs told (Batches name wanted most) = AreBatchesShown ps name wanted most told
Answers ps logs told (Listed sought shown all) = Has told (rows.MorePartitions shown all sought)
Answers ps logs told (Around name wanted offset) = AreAroundShown ps name wanted offset told
Answers ps logs told (Ends name offset) = AreEndsOfShown ps name offset told

abbrev pub AnswersEach : List Partition → List PartLog → List Row → List Question → Type 0
AnswersEach ps logs told [] = ⊤
AnswersEach ps logs told (question ∷ questions) = Answers ps logs told question × AnswersEach ps logs told questions
