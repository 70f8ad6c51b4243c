-- What a group has committed, beside the partitions in their order.
use Rattle.std.specs.Prelude.{◌≡◌, ℤ, List, map}
use Rattle.eos_base.specs.declared.partition_name.PartitionName.{PartitionName}
use Rattle.eos_claims.specs.Outputs.{Commit}
use Rattle.eos_commits.specs.declared.commits.CommitRef.{CommitRef}
use Rattle.eos_commits.specs.EpochCommits.{EpochCommit}
use Rattle.eos_notes.specs.ReplacedNotes.{Committed}

-- the leader epoch in the offset's place
abbrev pub renamed : CommitRef → CommitRef
renamed c = record { topic = c.topic; partition = c.partition; offset = c.leader_epoch; leader_epoch = c.leader_epoch; writer = c.writer }

-- so it is of what it stands for
abbrev pub with_epoch : EpochCommit → Commit
with_epoch c = record { partition = c.commit.partition; offset = c.leader_epoch; writer = c.commit.writer }

-- the offsets and the leader epochs of the partitions of these names
pub record AreCommitted (of : Committed) (names : List PartitionName) (offsets epochs : List ℤ) : Type 0 where
  pub offsets_are : offsets ≡ map (λ n. (of n).0) names
  pub epochs_are : epochs ≡ map (λ n. (of n).1) names
