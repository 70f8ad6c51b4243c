-- The row has the names so far.
use Rattle.std.proofs.Common.{◌≡◌, Bor, map}
use Rattle.eos_base.specs.declared.partition_name.PartitionName.{PartitionName}
use Rattle.eos_commands.proofs.copied.in_a_row.Given as goal

abbrev pub invariant-loop-name : goal.invariant-loop-name
invariant-loop-name l = l.row.items ≡ map (λ (name : Bor PartitionName). name.now) l.yielded
