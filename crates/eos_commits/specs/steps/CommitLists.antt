-- The commits with the leader epochs that they name, record by record of all records of a log.
use Rattle.std.specs.Prelude.{Bool, List, [], map, flat_map, if◌then◌else◌}
use Rattle.eos_offsets.specs.declared.key.OffsetKey.{OffsetKey}
use Rattle.eos_fold.specs.declared.item.Item.{Item}
use Rattle.eos_fold.specs.Parts.{PartLog}
use Rattle.eos_commits.specs.Visible.{is_visible}
use Rattle.eos_commits.specs.Commits.{is_offsets_part, key_of, commit_under}
use Rattle.eos_commits.specs.EpochCommits.{EpochCommit, under, epoch_in}

abbrev pub commit_at : (OffsetKey → Bool) → Item → List EpochCommit
commit_at ours x = if is_visible x.fate then map (under (epoch_in x.value)) (commit_under ours (key_of x) x) else []

abbrev pub commits_at : (OffsetKey → Bool) → PartLog → List EpochCommit
commits_at ours p = if is_offsets_part p then flat_map (commit_at ours) p.items else []

abbrev pub commits_by : (OffsetKey → Bool) → List PartLog → List EpochCommit
commits_by ours ps = flat_map (commits_at ours) ps
