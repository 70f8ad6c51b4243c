-- The segments so far list these partitions, which the set has gained.
use Rattle.std.proofs.Common.{List, take}
use Rattle.eos_base.specs.declared.partition_name.PartitionName.{PartitionName}
use Rattle.eos_disk.specs.Paths.{path_of_end}
use Rattle.eos_commands.specs.Copies.{AreListedBy}
use Rattle.eos_commands.specs.steps.Names.{Gains}
use Rattle.eos_commands.proofs.copied.Logs.insert_segments.Given as goal

abbrev pub invariant-loop-base : goal.invariant-loop-base
invariant-loop-base g l = (listed : List PartitionName) × AreListedBy (g.D.Disk.holds l.self.disk.now) (path_of_end l.self.folder.now l.end) (take l.base-index l.bases) listed
    × Gains l.fn.names listed l.names
