-- The times of rows, by partitions that were read once more for them.
use Rattle.std.specs.Prelude.{◌≡◌, ◌⊎◌, ⊤, ℕ, ◌-◌, ℤ, List, [], ◌∷◌, ◌++◌, map, Bool, true, false, ◌&&◌, Option, Some, None, slice_get, if◌then◌else◌}
use Rattle.std.specs.Cmp.Lexicographic.{slice_cmp}
use Rattle.std.specs.Option.{option_flatten}
use Rattle.std.specs.Ordering.{nat_cmp, int_eq, is_eq}
use Rattle.eos_base.specs.Members.{Has}
use Rattle.eos_base.specs.declared.partition_name.PartitionName.{PartitionName}
use Rattle.eos_batch.specs.declared.batch.Batch.{Batch}
use Rattle.eos_evidence.specs.declared.partition.Partition.{Partition}
use Rattle.eos_evidence.specs.Evidence.{EvidenceParts, IsEvidence}
use Rattle.eos_sought.specs.Partitions.{is_named, partition_named}
use Rattle.eos_sought.specs.Times.{time_in, time_in_batch}
use Rattle.eos_sought.specs.declared.finding.Find.{Find}
use Rattle.eos_sought.specs.declared.partition.Placed.{Placed}
use Rattle.eos_source.specs.Said.{Known}
use Rattle.eos_source_check.specs.Picked.{ArePickedNamed}
use Rattle.eos_source_check.specs.declared.picks.Picked.{Picked}
use Rattle.eos_story.specs.declared.row.Row.{Row}
use Rattle.eos_story.specs.declared.row.Row.TheVariants as rows
use Rattle.eos_explaining.specs.Folders.{AreRead, HasThem}
use Rattle.eos_explaining.specs.Told.{row_time}

-- ---- one row

abbrev pub name_if : PartitionName → Option Placed → Option PartitionName
name_if name None = None
name_if name (Some p) = Some name

-- the partition that has the time of a row, where it has one
abbrev pub timed_in : Row → Option PartitionName
timed_in (rows.Record sought find spot) = name_if find.partition spot
timed_in (rows.NoRecord sought) = None
timed_in (rows.MoreRecords shown all sought) = None
timed_in (rows.Batch name wanted placed) = Some name
timed_in (rows.First name wanted placed) = name_if name placed
timed_in (rows.MoreBatches name wanted shown all) = None
timed_in (rows.MorePartitions shown all sought) = None
timed_in (rows.Segment name base size) = None
timed_in (rows.MoreSegments name shown all) = None
timed_in (rows.End name end) = None
timed_in (rows.Header place name values) = None

abbrev pub first_time_in : Option Partition → Option Placed → Option ℤ
first_time_in partition None = None
first_time_in partition (Some p) = time_in partition p p.standing.head.offset

abbrev pub record_time_in : Option Partition → Find → Option Placed → Option ℤ
record_time_in partition find None = None
record_time_in partition find (Some p) = time_in partition p find.item.offset

-- the time of a row that is looked up in this partition
abbrev pub row_time_in : Option Partition → Row → Option ℤ
row_time_in partition (rows.Record sought find spot) = record_time_in partition find spot
row_time_in partition (rows.NoRecord sought) = None
row_time_in partition (rows.MoreRecords shown all sought) = None
row_time_in partition (rows.Batch name wanted placed) = first_time_in partition (Some placed)
row_time_in partition (rows.First name wanted placed) = first_time_in partition placed
row_time_in partition (rows.MoreBatches name wanted shown all) = None
row_time_in partition (rows.MorePartitions shown all sought) = None
row_time_in partition (rows.Segment name base size) = None
row_time_in partition (rows.MoreSegments name shown all) = None
row_time_in partition (rows.End name end) = None
row_time_in partition (rows.Header place name values) = None

-- ---- by the batches that stand there

abbrev pub at_record : ℕ → Option Placed → Option (Placed × ℕ)
at_record offset None = None
at_record offset (Some p) = Some (p, offset)

abbrev pub at_first : Option Placed → Option (Placed × ℕ)
at_first None = None
at_first (Some p) = Some (p, p.standing.head.offset)

-- the place of what a row is of, and the offset of its record
abbrev pub spot_of : Row → Option (Placed × ℕ)
spot_of (rows.Record sought find spot) = at_record find.item.offset spot
spot_of (rows.NoRecord sought) = None
spot_of (rows.MoreRecords shown all sought) = None
spot_of (rows.Batch name wanted placed) = at_first (Some placed)
spot_of (rows.First name wanted placed) = at_first placed
spot_of (rows.MoreBatches name wanted shown all) = None
spot_of (rows.MorePartitions shown all sought) = None
spot_of (rows.Segment name base size) = None
spot_of (rows.MoreSegments name shown all) = None
spot_of (rows.End name end) = None
spot_of (rows.Header place name values) = None

abbrev pub time_at : Option (Placed × ℕ) → Option Batch → Option ℤ
time_at None batch = None
time_at (Some s) batch = time_in_batch batch (s.1 - s.0.standing.head.offset)

abbrev pub time_by : Row → Option Batch → Option ℤ
time_by row batch = time_at (spot_of row) batch

abbrev pub is_own : Option PartitionName → PartitionName → Bool
is_own None name = false
is_own (Some own) name = is_eq (slice_cmp nat_cmp name.topic own.topic) && int_eq name.partition own.partition

-- whether the partition of this name has the time of a row
abbrev pub is_timed_in : PartitionName → Row → Bool
is_timed_in name row = is_own (timed_in row) name

abbrev pub place_if : Bool → Option (Placed × ℕ) → Option Placed
place_if false spot = None
place_if true None = None
place_if true (Some s) = Some s.0

-- the place of what a row is of, where it is in the partition of this name
abbrev pub spot_in : PartitionName → Row → Option Placed
spot_in name row = place_if (is_timed_in name row) (spot_of row)

-- ---- what is known of the times of rows

abbrev pub is_named_if : Option PartitionName → Partition → Bool
is_named_if None p = false
is_named_if (Some name) p = is_named name p

-- once this partition was read
abbrev pub time_put : Partition → Row → Option (Option ℤ) → Option (Option ℤ)
time_put p row was = if is_named_if (timed_in row) p then Some (row_time_in (Some p) row) else was

abbrev pub first_known : List (Option (Option ℤ)) → Option (Option ℤ)
first_known [] = None
first_known (f ∷ fs) = f

abbrev pub rest_known : List (Option (Option ℤ)) → List (Option (Option ℤ))
rest_known [] = []
rest_known (f ∷ fs) = fs

-- of each row; of those past the list nothing was known
abbrev pub times_put : Partition → List Row → List (Option (Option ℤ)) → List (Option (Option ℤ))
times_put p [] found = []
times_put p (row ∷ others) found = time_put p row (first_known found) ∷ times_put p others (rest_known found)

-- so it is in each evidence of this spec that has these partitions
abbrev pub IsTimeBy : EvidenceParts → List Partition → Row → Option ℤ → Type 0
IsTimeBy shape also row time = (e : EvidenceParts) → IsEvidence shape → IsEvidence e → e.spec ≡ shape.spec → HasThem e also → time ≡ row_time e.partitions row

abbrev pub IsTimeIf : EvidenceParts → List Partition → Row → Option (Option ℤ) → Type 0
IsTimeIf shape also row None = ⊤
IsTimeIf shape also row (Some time) = IsTimeBy shape also row time

-- so it is with each time that is known
abbrev pub AreTimesIf : EvidenceParts → List Partition → List Row → List (Option (Option ℤ)) → Type 0
AreTimesIf shape also [] found = ⊤
AreTimesIf shape also (row ∷ others) [] = ⊤
AreTimesIf shape also (row ∷ others) (f ∷ fs) = IsTimeIf shape also row f × AreTimesIf shape also others fs

-- ---- the code's steps

-- these batches of rows stand in the partition of this number among those named
abbrev pub ArePickedAt : (ℕ → Known) → List Partition → List PartitionName → ℕ → List Row → Option Picked → Type 0
ArePickedAt known shapes names number all picked = (name : PartitionName) → slice_get names number ≡ Some name → ArePickedNamed known shapes name (map (spot_in name) all) picked

-- the times by what is known of them: none where nothing is
abbrev pub known_times : List Row → List (Option (Option ℤ)) → List (Option ℤ)
known_times [] found = []
known_times (row ∷ others) found = option_flatten (first_known found) ∷ known_times others (rest_known found)

abbrev pub IsKnown : Option (Option ℤ) → Type 0
IsKnown f = (time : Option ℤ) × (f ≡ Some time)

-- of each row whose time the partition of this name has it is known, or there is no such partition
abbrev pub AreKnownIn : List Partition → PartitionName → List Row → List (Option (Option ℤ)) → Type 0
AreKnownIn shapes name [] found = ⊤
AreKnownIn shapes name (row ∷ others) found = (timed_in row ≡ Some name → (partition_named name shapes ≡ None) ⊎ IsKnown (first_known found)) × AreKnownIn shapes name others (rest_known found)

-- what is known of the times of these rows once the partitions of these names were read
pub record AreTimesKnown (known : ℕ → Known) (shape : EvidenceParts) (all : List Row) (names : List PartitionName) (found : List (Option (Option ℤ))) : Type 0 where
  pub also : List Partition
  pub read : AreRead known shape.partitions also
  pub so : AreTimesIf shape also all found
  pub of : (name : PartitionName) → Has names name → AreKnownIn shape.partitions name all found

-- and once that of a further name was
abbrev pub TimesPut : PartitionName → List Row → Option Picked → List (Option (Option ℤ)) → List (Option (Option ℤ)) → Type 0
TimesPut name all picked old new = (known : ℕ → Known) (shape : EvidenceParts) (before : List PartitionName) → ArePickedNamed known shape.partitions name (map (spot_in name) all) picked → AreTimesKnown known shape all before old
    → AreTimesKnown known shape all (before ++ name ∷ []) new

-- and once those of further names were
abbrev pub TimesMore : (ℕ → Known) → EvidenceParts → List Row → List PartitionName → List (Option (Option ℤ)) → List (Option (Option ℤ)) → Type 0
TimesMore known shape all names old new = (before : List PartitionName) → AreTimesKnown known shape all before old → AreTimesKnown known shape all (before ++ names) new

-- the times of these rows, in each evidence of this spec that has the partitions that were read for them
pub record AreRowTimes (known : ℕ → Known) (shape : EvidenceParts) (all : List Row) (times : List (Option ℤ)) : Type 0 where
  pub also : List Partition
  pub read : AreRead known shape.partitions also
  pub are : (e : EvidenceParts) → IsEvidence shape → IsEvidence e → e.spec ≡ shape.spec → HasThem e also → times ≡ map (row_time e.partitions) all
