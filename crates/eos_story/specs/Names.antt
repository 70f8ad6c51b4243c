-- Which partition a row is looked up in: each row names one at most.
use Rattle.std.specs.Prelude.{Option, Some, None}
use Rattle.eos_base.specs.declared.partition_name.PartitionName.{PartitionName}
use Rattle.eos_story.specs.declared.row.Row.{Row}
use Rattle.eos_story.specs.declared.row.Row.TheVariants as rows

-- the partition that a row names, if it names one
abbrev pub name_in : Row → Option PartitionName
name_in (rows.Record sought find spot) = Some find.partition
name_in (rows.NoRecord sought) = None
name_in (rows.MoreRecords shown all sought) = None
name_in (rows.Batch name wanted placed) = Some name
name_in (rows.First name wanted placed) = Some name
name_in (rows.MoreBatches name wanted shown all) = Some name
name_in (rows.MorePartitions shown all sought) = None
name_in (rows.Segment name base size) = Some name
name_in (rows.MoreSegments name shown all) = Some name
name_in (rows.End name end) = Some name
name_in (rows.Header place name values) = Some place.partition
