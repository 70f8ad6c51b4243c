-- The names of partitions whose topics are lent, and each of them once.
use Rattle.std.specs.Prelude.{◌↔◌, Bool, not, List}
use Rattle.std.specs.List.Sorted.{IsStrictlySortedBy}
use Rattle.std.specs.declared.cmp.Ordering.{Ordering}
use Rattle.eos_base.specs.Members.{Has, is_found}
use Rattle.eos_base.specs.PartitionNames.{name_cmp}
use Rattle.eos_base.specs.declared.partition_name.PartitionName.{PartitionName}
use Rattle.eos_claims.specs.Outputs.{Commit}
use Rattle.eos_notes.specs.declared.unlisted.NameRef.{NameRef}

abbrev pub plain_name : NameRef → PartitionName
plain_name n = record { topic = n.topic.now; partition = n.partition }

abbrev pub by_name : NameRef → NameRef → Ordering
by_name a b = name_cmp (plain_name a) (plain_name b)

abbrev pub commit_name : Commit → PartitionName
commit_name c = c.partition

abbrev pub is_unlisted : List PartitionName → PartitionName → Bool
is_unlisted listed n = not (is_found name_cmp listed n)

-- the names of the first list, each once, in order
pub record AreEachOnce (all names : List PartitionName) : Type 0 where
  pub ascend : IsStrictlySortedBy name_cmp names
  pub members : (n : PartitionName) → Has names n ↔ Has all n
