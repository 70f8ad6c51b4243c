-- What a group has committed of each partition, and the notes of it, partition by partition.
use Rattle.std.proofs.Common.{◌≡◌, ℕ, ℤ, pos, ◌+◌, ◌<◌, Bool, true, false, cond, List, [], ◌∷◌, ◌++◌, length, get_or, map, None, refl, ap, ◌∙◌}
use Rattle.std.specs.List.{filter}
use Rattle.std.specs.Ordering.{is_eq}
use Rattle.eos_base.specs.PartitionNames.{name_cmp}
use Rattle.eos_base.specs.declared.partition_name.PartitionName.{PartitionName}
use Rattle.eos_evidence.specs.declared.application.App.{App}
use Rattle.eos_fold.specs.Parts.{PartLog, part_name}
use Rattle.eos_claims.specs.Outputs.{Commit, last_offset, committed_offset}
use Rattle.eos_commits.specs.declared.commits.CommitRef.{CommitRef}
use Rattle.eos_commits.specs.Commits.{Group}
use Rattle.eos_commits.specs.EpochCommits.{EpochCommit, epoch_commits_of}
use Rattle.eos_commits.specs.Plain.{plain_commit, epoch_commit}
use Rattle.eos_commits.specs.EvidenceLogs.{commits_for}
use Rattle.eos_reading.specs.declared.epoch.EpochEntry.{EpochEntry}
use Rattle.eos_notes.specs.declared.note.Note.{Note}
use Rattle.eos_notes.specs.ReplacedNotes.{Committed, last_epoch, committed_epoch, committed_by, epoch_below, other_note, other_at}
use Rattle.eos_notes.specs.steps.Replaced.{renamed, with_epoch, AreCommitted}
use Rattle.eos_notes.proofs.EpochFalls.{SoFar, entries_on}
use Rattle.eos_notes.proofs.PartTables.{offset_at}

-- ---- the leader epoch is found as an offset is

pub renamed_is : (cs : List CommitRef) → map plain_commit (map renamed cs) ≡ map with_epoch (map epoch_commit cs)
renamed_is [] = refl
renamed_is (c ∷ cs) = ap (λ (xs : List Commit). plain_commit (renamed c) ∷ xs) (renamed_is cs)

epoch_is : (name : PartitionName) (d : ℤ) (cs : List EpochCommit)
    → last_offset d (filter (λ (c : Commit). is_eq (name_cmp c.partition name)) (map with_epoch cs)) ≡ last_epoch d (filter (λ (c : EpochCommit). is_eq (name_cmp c.commit.partition name)) cs)
epoch_is name d [] = refl
epoch_is name d (c ∷ cs) = go (is_eq (name_cmp c.commit.partition name)) (epoch_is name c.leader_epoch cs) (epoch_is name d cs)
  where
    few : List Commit
    few = filter (λ (x : Commit). is_eq (name_cmp x.partition name)) (map with_epoch cs)

    named : List EpochCommit
    named = filter (λ (x : EpochCommit). is_eq (name_cmp x.commit.partition name)) cs

    go : (b : Bool) → last_offset c.leader_epoch few ≡ last_epoch c.leader_epoch named → last_offset d few ≡ last_epoch d named → last_offset d (cond b (with_epoch c ∷ few) few) ≡ last_epoch d (cond b (c ∷ named) named)
    go true here past = here
    go false here past = past

all_epochs : (cs : List EpochCommit) (names : List PartitionName) → map (committed_offset (map with_epoch cs)) names ≡ map (committed_epoch cs) names
all_epochs cs [] = refl
all_epochs cs (n ∷ ns) = λ i. epoch_is n (pos 0) cs i ∷ all_epochs cs ns i

-- of an application, by its commits
pub are_committed : (logs : List PartLog) (app : App) (cs ds : List CommitRef) (offsets epochs : List ℤ) → map plain_commit cs ≡ commits_for logs app → map epoch_commit cs ≡ epoch_commits_of app.group app.sources logs
    → ds ≡ map renamed cs → offsets ≡ map (committed_offset (map plain_commit cs)) (map part_name logs) → epochs ≡ map (committed_offset (map plain_commit ds)) (map part_name logs)
    → AreCommitted (committed_by logs app) (map part_name logs) offsets epochs
are_committed logs app cs ds offsets epochs plain led is offsets_are epochs_are =
    let names = map part_name logs in
    let of_epochs : map plain_commit ds ≡ map with_epoch (epoch_commits_of app.group app.sources logs) = ap (map plain_commit) is ∙ (renamed_is cs ∙ ap (map with_epoch) led) in
    record {
      offsets_are = offsets_are ∙ ap (λ (xs : List Commit). map (committed_offset xs) names) plain;
      epochs_are = epochs_are ∙ (ap (λ (xs : List Commit). map (committed_offset xs) names) of_epochs ∙ all_epochs (epoch_commits_of app.group app.sources logs) names);
    }

-- ---- one partition more

pub each_on : (group : Group) (of : Committed) (ps : List PartLog) (ess : List (List EpochEntry)) (offsets epochs : List ℤ) (i : ℕ) (p : PartLog) (es : List EpochEntry) (o e : ℤ) (all more whole : List Note) → i < length ps
    → i < length ess → p ≡ get_or ps i p → es ≡ get_or ess i es → o ≡ get_or offsets i (pos 0) → e ≡ get_or epochs i (pos 0) → AreCommitted of (map part_name ps) offsets epochs
    → more ≡ all ++ other_note group (part_name p) o e (epoch_below o None es) → SoFar (other_at group of) ps ess i all whole → SoFar (other_at group of) ps ess (i + 1) more whole
each_on group of ps ess offsets epochs i p es o e all more whole lt lt' is is' read read' are pushed so_far =
    let name = part_name p in
    let at : o ≡ (of name).0 = read ∙ offset_at (λ n. (of n).0) ps offsets i p (pos 0) lt is are.offsets_are in
    let under : e ≡ (of name).1 = read' ∙ offset_at (λ n. (of n).1) ps epochs i p (pos 0) lt is are.epochs_are in
    let same : all ++ other_note group name o e (epoch_below o None es) ≡ all ++ other_at group of name es = λ j. all ++ other_note group name (at j) (under j) (epoch_below (at j) None es) in
    entries_on (other_at group of) ps ess i p es all more whole lt lt' is is' (pushed ∙ same) so_far
