-- The folders so far ask for these partitions, which the set has.
use Rattle.std.proofs.Common.{List, take}
use Rattle.std.specs.BTreeSet.{BTreeSet, IsEmpty}
use Rattle.eos_base.specs.declared.partition_name.PartitionName.{PartitionName}
use Rattle.eos_commands.specs.Copies.{AreAsked}
use Rattle.eos_commands.specs.steps.Names.{Gains}
use Rattle.eos_commands.proofs.copied.Logs.required.Given as goal

abbrev pub invariant-loop-name : goal.invariant-loop-name
invariant-loop-name g l = (none : BTreeSet PartitionName) × (asked : List PartitionName) × IsEmpty none × Gains none asked l.names
    × AreAsked (g.D.Disk.holds l.self.disk.now) l.self.folder.now l.apps (take l.name-index l.folders) asked
