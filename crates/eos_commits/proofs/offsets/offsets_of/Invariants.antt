use Rattle.std.proofs.Common.{◌≡◌, take, map, length, List, ℤ}
use Rattle.eos_claims.specs.Outputs.{Commit, committed_offset}
use Rattle.eos_commits.specs.Plain.{plain_commit}
use Rattle.eos_base.specs.declared.partition_name.PartitionName.{PartitionName}
use Rattle.eos_commits.specs.NameTables.{AreAscending}
use Rattle.eos_commits.proofs.offsets.offsets_of.Given as goal

pub record AreSet (names : List PartitionName) (commits : List Commit) (offsets : List ℤ) : Type 0 where
  pub len : length offsets ≡ length names
  pub offsets_are : AreAscending names → offsets ≡ map (committed_offset commits) names

abbrev pub invariant-loop-commit : goal.invariant-loop-commit
invariant-loop-commit l = AreSet l.names (map plain_commit (take l.commit-index l.commits)) l.offsets.items
