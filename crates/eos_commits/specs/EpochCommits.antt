-- The commits of a group, each with the leader epoch that its value names: that of the last record which the group had read, so that
-- after an unclean election it is known that another record stands there (KIP-320).
use Rattle.std.specs.Prelude.{ℕ, ℤ, negsuc, List, map, flat_map, Option, Some, None}
use Rattle.eos_offsets.specs.LeaderEpochs.{leader_epoch_of}
use Rattle.eos_fold.specs.declared.item.Item.{Item}
use Rattle.eos_fold.specs.Parts.{PartLog}
use Rattle.eos_claims.specs.Outputs.{Commit}
use Rattle.eos_commits.specs.Visible.{visible}
use Rattle.eos_commits.specs.Commits.{Group, Topic, offsets_parts, commit_in}

-- -1 for none
pub record EpochCommit : Type 0 where
  pub commit : Commit
  pub leader_epoch : ℤ

abbrev pub under : ℤ → Commit → EpochCommit
under epoch commit = record { commit = commit; leader_epoch = epoch }

-- a null value is of no commit
abbrev pub epoch_in : Option (List ℕ) → ℤ
epoch_in None = negsuc 0
epoch_in (Some value) = leader_epoch_of value

-- the commit that a record is, if it is one
abbrev pub epoch_commit_in : Group → List Topic → Item → List EpochCommit
epoch_commit_in group sources x = map (under (epoch_in x.value)) (commit_in group sources x)

abbrev pub epoch_commits_in : Group → List Topic → PartLog → List EpochCommit
epoch_commits_in group sources p = flat_map (epoch_commit_in group sources) (visible p)

-- in the order of the log, one partition of `__consumer_offsets` after the other
abbrev pub epoch_commits_of : Group → List Topic → List PartLog → List EpochCommit
epoch_commits_of group sources ps = flat_map (epoch_commits_in group sources) (offsets_parts ps)
