-- What a row of a story says of the logs. Each row names what it is the place of, and so can be looked up.
use Rattle.std.specs.Prelude.{◌≡◌, ℕ, ℤ, List, Option, Some, length, slice_get}
use Rattle.eos_base.specs.declared.partition_name.PartitionName.{PartitionName}
use Rattle.eos_base.specs.Members.{Has}
use Rattle.eos_batch.specs.declared.record.Header.{Header}
use Rattle.eos_claims.specs.declared.place.Place.{Place}
use Rattle.eos_claims.specs.Headers.{values_of}
use Rattle.eos_evidence.specs.declared.partition.Partition.{Partition}
use Rattle.eos_evidence.specs.declared.segment.Segment.{Segment}
use Rattle.eos_fold.specs.Fronts.{base_of}
use Rattle.eos_fold.specs.Parts.{PartLog}
use Rattle.eos_sought.specs.declared.partition.Placed.{Placed}
use Rattle.eos_sought.specs.declared.wanted.Wanted.{Wanted}
use Rattle.eos_sought.specs.declared.wanted.Wanted.TheVariants.{Holding}
use Rattle.eos_sought.specs.Partitions.{partition_named, AreBatchesOf}
use Rattle.eos_sought.specs.declared.finding.Find.{Find}
use Rattle.eos_sought.specs.declared.sought.Sought.{Sought}
use Rattle.eos_sought.specs.Finds.{all_of}
use Rattle.eos_story.specs.declared.row.Row.{Row}
use Rattle.eos_story.specs.declared.row.Row.TheVariants as rows
use Rattle.eos_story.specs.declared.headers.HeaderName.{HeaderName}
use Rattle.eos_story.specs.HeaderBytes.{headers_at}
use Rattle.eos_story.specs.HeaderNames.{key_of}
use Rattle.eos_story.specs.Listings.{listed_by}

-- the first batch of a partition that is wanted
pub record IsFirst (partitions : List Partition) (name : PartitionName) (wanted : Wanted) (placed : Option Placed) : Type 0 where
  pub found : List Placed
  pub are : AreBatchesOf partitions name wanted found
  pub first : placed ≡ slice_get found 0

-- one of the batches of a partition that are wanted
pub record IsOneOf (partitions : List Partition) (name : PartitionName) (wanted : Wanted) (placed : Placed) : Type 0 where
  pub found : List Placed
  pub are : AreBatchesOf partitions name wanted found
  pub has : Has found placed

-- so many batches of a partition are wanted
pub record AreSoMany (partitions : List Partition) (name : PartitionName) (wanted : Wanted) (all : ℕ) : Type 0 where
  pub found : List Placed
  pub are : AreBatchesOf partitions name wanted found
  pub number : all ≡ length found

-- a segment of a partition
pub record IsSegmentOf (partitions : List Partition) (name : PartitionName) (base size : ℕ) : Type 0 where
  pub partition : Partition
  pub named : partition_named name partitions ≡ Some partition
  pub segment : Segment
  pub has : Has partition.segments segment
  pub of_base : base ≡ base_of segment
  pub of_size : size ≡ length segment.bytes

-- so many segments of a partition
pub record AreSegmentsOf (partitions : List Partition) (name : PartitionName) (all : ℕ) : Type 0 where
  pub partition : Partition
  pub named : partition_named name partitions ≡ Some partition
  pub number : all ≡ length partition.segments

-- one of the records that are sought lists so many partitions
pub record AreListed (logs : List PartLog) (sought : Sought) (all : ℕ) : Type 0 where
  pub find : Find
  pub has : Has (all_of sought logs) find
  pub number : all ≡ length (listed_by (Some find))

-- the declared end of a partition
pub record IsEndOf (partitions : List Partition) (name : PartitionName) (end : ℤ) : Type 0 where
  pub partition : Partition
  pub named : partition_named name partitions ≡ Some partition
  pub is : end ≡ partition.end.end

-- a record that is sought, and the batch that holds it
pub record IsRecordAt (partitions : List Partition) (logs : List PartLog) (find : Find) (spot : Option Placed) (all : List Find) : Type 0 where
  pub has : Has all find
  pub holds : IsFirst partitions find.partition (Holding find.item.offset) spot

-- the headers of the record of a place, by the bytes of the first batch that holds it
pub record AreHeadersOf (partitions : List Partition) (place : Place) (headers : List Header) : Type 0 where
  pub spot : Option Placed
  pub holds : IsFirst partitions place.partition (Holding place.offset) spot
  pub are : headers ≡ headers_at partitions place.partition place.offset spot

-- these values stand under a name in the headers of the record of a place
pub record StandUnder (partitions : List Partition) (place : Place) (name : HeaderName) (values : List (Option (List ℕ))) : Type 0 where
  pub headers : List Header
  pub of : AreHeadersOf partitions place headers
  pub are : values ≡ values_of (key_of name) headers

abbrev pub IsTrue : List Partition → List PartLog → Row → Type 0
IsTrue ps logs (rows.Record sought find spot) = IsRecordAt ps logs find spot (all_of sought logs)
IsTrue ps logs (rows.NoRecord sought) = length (all_of sought logs) ≡ 0
IsTrue ps logs (rows.MoreRecords shown all sought) = all ≡ length (all_of sought logs)
IsTrue ps logs (rows.Batch name wanted placed) = IsOneOf ps name wanted placed
IsTrue ps logs (rows.First name wanted placed) = IsFirst ps name wanted placed
IsTrue ps logs (rows.MoreBatches name wanted shown all) = AreSoMany ps name wanted all
IsTrue ps logs (rows.MorePartitions shown all sought) = AreListed logs sought all
IsTrue ps logs (rows.Segment name base size) = IsSegmentOf ps name base size
IsTrue ps logs (rows.MoreSegments name shown all) = AreSegmentsOf ps name all
IsTrue ps logs (rows.End name end) = IsEndOf ps name end
IsTrue ps logs (rows.Header place name values) = StandUnder ps place name values
