-- The names of partitions as a table in which one is looked up.
use Rattle.std.specs.Prelude.{◌≡◌, List}
use Rattle.std.specs.List.{AllPairs}
use Rattle.std.specs.declared.cmp.Ordering.TheVariants.{Less}
use Rattle.eos_base.specs.declared.partition_name.PartitionName.{PartitionName}
use Rattle.eos_base.specs.PartitionNames.{name_cmp}
use Rattle.eos_commits.specs.declared.name.NameRef.{NameRef}

abbrev pub plain_name : NameRef → PartitionName
plain_name n = record { topic = n.topic.now; partition = n.partition }

-- each below those after it
abbrev pub AreAscending : List PartitionName → Type 0
AreAscending = AllPairs (λ n m. name_cmp n m ≡ Less)
