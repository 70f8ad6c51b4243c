-- The tables of a report on an evidence, over the logs that its verdict is of.
use Rattle.std.specs.Prelude.{List}
use Rattle.eos_evidence.specs.Evidence.{EvidenceParts}
use Rattle.eos_fold.specs.Parts.{PartLog}
use Rattle.eos_commits.specs.EvidenceLogs.{AreLogsOf}
use Rattle.eos_notes.specs.declared.tally.Tallies.{Tallies}
use Rattle.eos_notes.specs.PartitionTallies.{roles_of, ArePartitionTallies}
use Rattle.eos_notes.specs.GroupTallies.{AreGroupTallies}

-- over these logs
pub record AreTalliesOver (e : EvidenceParts) (logs : List PartLog) (t : Tallies) : Type 0 where
  pub partitions : ArePartitionTallies (roles_of e.spec.apps) e.partitions logs t.partitions
  pub groups : AreGroupTallies logs e.spec.apps t.groups

-- of the evidence, over its logs as the verdict sees them
abbrev pub AreTallies : EvidenceParts → Tallies → Type 0
AreTallies e t = (logs : List PartLog) × AreLogsOf e.partitions logs × AreTalliesOver e logs t
