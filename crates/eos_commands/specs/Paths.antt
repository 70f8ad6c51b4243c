-- Which partition's folder is at a path. Source: Kafka's documentation, "Log" (the folder of a partition's log is named by its topic
-- and number).
use Rattle.std.specs.Prelude.{ℕ, List, Option, option_map, option_and_then}
use Rattle.std.specs.Path.{path_file_name}
use Rattle.eos_base.specs.declared.partition_name.PartitionName.{PartitionName}
use Rattle.eos_manifest.specs.Lines.{partition_in_name}

-- the one that the last part of the path names
abbrev pub partition_at : List ℕ → Option PartitionName
partition_at path =
    option_map (λ place. record { topic = place.0; partition = place.1 }) (option_and_then partition_in_name (path_file_name path))
