-- What is kept of the logs of an evidence's partitions.
use Rattle.std.specs.Prelude.{◌≡◌, List, Option}
use Rattle.eos_evidence.specs.declared.application.App.{App}
use Rattle.eos_evidence.specs.declared.partition.Partition.{Partition}
use Rattle.eos_touch.specs.declared.fault.PartitionFault.{PartitionFault}
use Rattle.eos_fold.specs.Parts.{PartLog}
use Rattle.eos_commits.specs.EvidenceLogs.{AreLogsOf}
use Rattle.eos_kept.specs.Faults.{AreFaultsIn}
use Rattle.eos_reading.specs.Wanted.{wanted_logs}

-- these are what the applications want of the partitions' logs, and these the least faults of the logs
pub record AreKeptOf (apps : List App) (partitions : List Partition) (logs : List PartLog) (named : List (Option PartitionFault)) : Type 0 where
  pub whole : List PartLog
  pub of : AreLogsOf partitions whole
  pub parts : logs ≡ wanted_logs apps whole
  pub faults : AreFaultsIn partitions named
