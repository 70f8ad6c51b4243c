-- The lines of rows as they are told: each as it is, ended behind its twentieth part, with the time of its record at its end, and each once.
use Rattle.std.specs.Prelude.{ℕ, ℤ, List, [], ◌++◌, map, Option, Some, None, codes}
use Rattle.std.specs.List.{before_first}
use Rattle.eos_base.specs.declared.partition_name.PartitionName.{PartitionName}
use Rattle.eos_claims.specs.declared.place.Place.{Place}
use Rattle.eos_evidence.specs.declared.partition.Partition.{Partition}
use Rattle.eos_sought.specs.declared.partition.Placed.{Placed}
use Rattle.eos_sought.specs.Partitions.{partition_named}
use Rattle.eos_sought.specs.Times.{time_in}
use Rattle.eos_sought.specs.declared.finding.Find.{Find}
use Rattle.eos_story.specs.declared.row.Row.{Row}
use Rattle.eos_story.specs.declared.row.Row.TheVariants as rows
use Rattle.eos_explaining.specs.Lines.{terms_text, is_end, distinct}
use Rattle.eos_explaining.specs.RowLines.{row_line}
use Rattle.eos_sought.specs.Moments.{time_text}

-- ---- the time of what a row is of

-- of a batch that of its first record
abbrev pub first_time : List Partition → PartitionName → Option Placed → Option ℤ
first_time partitions name None = None
first_time partitions name (Some p) = time_in (partition_named name partitions) p p.standing.head.offset

abbrev pub record_time : List Partition → Find → Option Placed → Option ℤ
record_time partitions find None = None
record_time partitions find (Some p) = time_in (partition_named find.partition partitions) p find.item.offset

abbrev pub row_time : List Partition → Row → Option ℤ
row_time partitions (rows.Record sought find spot) = record_time partitions find spot
row_time partitions (rows.NoRecord sought) = None
row_time partitions (rows.MoreRecords shown all sought) = None
row_time partitions (rows.Batch name wanted placed) = first_time partitions name (Some placed)
row_time partitions (rows.First name wanted placed) = first_time partitions name placed
row_time partitions (rows.MoreBatches name wanted shown all) = None
row_time partitions (rows.MorePartitions shown all sought) = None
row_time partitions (rows.Segment name base size) = None
row_time partitions (rows.MoreSegments name shown all) = None
row_time partitions (rows.End name end) = None
row_time partitions (rows.Header place name values) = None

abbrev pub when_text : Option ℤ → List ℕ
when_text None = []
when_text (Some time) = codes " at " ++ time_text time

-- ---- its line

-- with the time that `time_of` has for it, as `row_time` of the partitions
unfoldable pub told_line : Option Place → (Row → Option ℤ) → Row → List ℕ
told_line fault time_of row = terms_text (before_first is_end (row_line fault row)) ++ (when_text (time_of row) ++ codes "\n")

abbrev pub told_lines : Option Place → (Row → Option ℤ) → List Row → List (List ℕ)
told_lines fault time_of all = distinct (map (told_line fault time_of) all)
