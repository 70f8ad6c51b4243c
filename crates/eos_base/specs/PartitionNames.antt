-- How partitions are named and ordered: a topic, and a number in it (Kafka's log directories).
use Rattle.std.specs.Ordering.{nat_cmp, int_cmp, then_cmp, on}
use Rattle.std.specs.Cmp.Lexicographic.{slice_cmp}
use Rattle.std.specs.declared.cmp.Ordering.{Ordering}
use Rattle.eos_base.specs.declared.partition_name.PartitionName.{PartitionName}

-- by topic bytes, then number
abbrev pub name_cmp : PartitionName → PartitionName → Ordering
name_cmp = then_cmp (on (λ n. n.topic) (slice_cmp nat_cmp)) (on (λ n. n.partition) int_cmp)
