-- The leader epochs that commits name are kept, with the values that name them.
use Rattle.std.proofs.Common.{◌≡◌, List, map, ap, ◌∙◌, refl, true}
use Rattle.eos_evidence.specs.declared.application.App.{App}
use Rattle.eos_fold.specs.declared.item.Item.{Item}
use Rattle.eos_fold.specs.Parts.{PartLog}
use Rattle.eos_commits.specs.Commits.{Group, Topic, is_offsets_part}
use Rattle.eos_commits.specs.EpochCommits.{under, epoch_in, epoch_commit_in, epoch_commits_in, epoch_commits_of}
use Rattle.eos_reading.specs.Wanted.{wanted_item, kept_log, wanted_logs}
use Rattle.eos_reading.specs.declared.wanted.Wanted.TheVariants.{Texts}
use Rattle.eos_check.proofs.KeptLineage.{commit_same}
use Rattle.eos_check.proofs.KeptRecords.{visible_flat, offsets_kept}
use Rattle.eos_check.proofs.SeenSame.{flat_seen}

epoch_same : (group : Group) (sources : List Topic) (x : Item) → epoch_commit_in group sources (wanted_item Texts x) ≡ epoch_commit_in group sources x
epoch_same group sources x = ap (map (under (epoch_in x.value))) (commit_same group sources x)

part_kept : (apps : List App) (group : Group) (sources : List Topic) (p : PartLog) → is_offsets_part p ≡ true → epoch_commits_in group sources (kept_log apps p) ≡ epoch_commits_in group sources p
part_kept apps group sources p e = ap (epoch_commits_in group sources) (offsets_kept apps p e) ∙ visible_flat Texts (epoch_commit_in group sources) (epoch_same group sources) p

pub epochs_kept : (apps : List App) (group : Group) (sources : List Topic) (ps : List PartLog) → epoch_commits_of group sources (wanted_logs apps ps) ≡ epoch_commits_of group sources ps
epochs_kept apps group sources ps = flat_seen (kept_log apps) is_offsets_part (epoch_commits_in group sources) (λ p. refl) (λ p e. part_kept apps group sources p e) ps
