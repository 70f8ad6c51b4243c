-- Notes see of logs their applications, the partitions' names and ends, and commits, which are kept.
use Rattle.std.proofs.Common.{◌≡◌, ℕ, Bool, true, false, List, [], ◌∷◌, ◌++◌, map, flat_map, Option, is_some, refl, ap, subst, ◌∙◌, inl, inr}
use Rattle.eos_base.specs.declared.partition_name.PartitionName.{PartitionName}
use Rattle.eos_base.specs.Members.{Has}
use Rattle.eos_claims.specs.Outputs.{Application, Commit, committed_offset}
use Rattle.eos_commits.specs.Faults.{AreInOrder}
use Rattle.eos_evidence.specs.Evidence.{EvidenceParts, IsEvidence}
use Rattle.eos_evidence.specs.SpecFields.{SpecFields}
use Rattle.eos_evidence.specs.declared.application.App.{App}
use Rattle.eos_evidence.specs.declared.ends.End.{End}
use Rattle.eos_fold.specs.Parts.{PartLog, part_name}
use Rattle.eos_commits.specs.EvidenceLogs.{AreLogsOf, commits_for}
use Rattle.eos_commits.specs.Applications.{is_part_of, parts_of}
use Rattle.eos_commits.proofs.LogsInOrder.{in_order}
use Rattle.eos_notes.specs.declared.note.Note.{Note}
use Rattle.eos_notes.specs.CommitNotes.{AreUnlisted, AreUnlistedNotes, past_end_at, past_end_of, past_ends_in, nothing_by, nothing_in, behind_of, behind_in}
use Rattle.eos_notes.specs.ManifestNotes.{no_application, absent_topics, gaps, absent_internals}
use Rattle.eos_notes.specs.ReplicaNotes.{falls, by_entries}
use Rattle.eos_notes.specs.ReplacedNotes.{committed_epoch, other_at, others_in, others_unless}
use Rattle.eos_notes.specs.Notes.{of_all, of_replicas, AreNotesBy, AreAllNotesBy, AreAllNotes}
use Rattle.eos_notes.specs.Lines.{IsAllNotesTextBy, IsAllNotesText}
use Rattle.eos_notes.proofs.Whole.{all_are}
use Rattle.eos_kept.specs.Parts.{HaveEpochs}
use Rattle.eos_reading.specs.declared.epoch.EpochEntry.{EpochEntry}
use Rattle.eos_kept.specs.Faults.{AreFaultsIn, first_of}
use Rattle.eos_touch.specs.declared.fault.PartitionFault.{PartitionFault}
use Rattle.eos_reading.specs.Wanted.{kept_log, wanted_logs}
use Rattle.eos_check.proofs.SeenSame.{flat_seen}
use Rattle.eos_check.proofs.KeptLineage.{application_kept}
use Rattle.eos_check.proofs.KeptOrder.{all_kept}
use Rattle.eos_source_check.proofs.Among.{flat_same}
use Rattle.eos_check.proofs.KeptEpochs.{epochs_kept}

-- ---- of an application

pub commits_kept : (apps : List App) (ps : List PartLog) (app : App) → Has apps app → commits_for (wanted_logs apps ps) app ≡ commits_for ps app
commits_kept apps ps app has = ap (λ (a : Application). a.commits) (application_kept apps ps app has)

past_kept : (apps : List App) (ps : List PartLog) (app : App) → Has apps app → past_ends_in (wanted_logs apps ps) app ≡ past_ends_in ps app
past_kept apps ps app has =
    flat_seen (kept_log apps) (is_part_of app.sources) (past_end_of (wanted_logs apps ps) app) (λ p. refl) (λ p e. refl) ps
    ∙ ap (λ (cs : List Commit). flat_map (λ p. past_end_at app.group p (committed_offset cs (part_name p))) (parts_of app.sources ps)) (commits_kept apps ps app has)

nothing_kept : (apps : List App) (ps : List PartLog) (app : App) → Has apps app → nothing_in (wanted_logs apps ps) app ≡ nothing_in ps app
nothing_kept apps ps app has = ap (nothing_by app.group) (commits_kept apps ps app has)

behind_kept : (apps : List App) (ps : List PartLog) (app : App) → Has apps app → behind_in (wanted_logs apps ps) app ≡ behind_in ps app
behind_kept apps ps app has = ap (behind_of app.group) (application_kept apps ps app has)

-- ---- of all

unlisted_kept : (ends : List End) (apps few : List App) (ps : List PartLog) (notes : List Note) → ((app : App) → Has few app → Has apps app)
    → AreUnlistedNotes ends (wanted_logs apps ps) few notes → AreUnlistedNotes ends ps few notes
unlisted_kept ends apps [] ps notes among h = h
unlisted_kept ends apps (app ∷ few) ps notes among h = (
  h.0,
  h.1,
  subst (λ (cs : List Commit). AreUnlisted ends cs h.0) (commits_kept apps ps app (among app (inl refl))) h.2,
  unlisted_kept ends apps few ps h.1 (λ a has. among a (inr has)) h.3,
  h.4,
)

all_same : (spec : SpecFields) (ps : List PartLog) (unlisted : List Note) → of_all spec (wanted_logs spec.apps ps) unlisted ≡ of_all spec ps unlisted
all_same spec ps unlisted =
    let kept = wanted_logs spec.apps ps in
    let past = flat_same (past_ends_in kept) (past_ends_in ps) spec.apps (past_kept spec.apps ps) in
    let nothing = flat_same (nothing_in kept) (nothing_in ps) spec.apps (nothing_kept spec.apps ps) in
    let late = flat_same (behind_in kept) (behind_in ps) spec.apps (behind_kept spec.apps ps) in
    λ i. no_application spec.apps ++ (unlisted ++ (past i ++ (absent_topics spec.ends spec.apps ++ (gaps spec.apps spec.ends ++ (nothing i ++ (absent_internals spec.ends ++ late i))))))

pub notes_kept : (spec : SpecFields) (ps : List PartLog) (faulty : Bool) (notes : List Note) → AreNotesBy spec (wanted_logs spec.apps ps) faulty notes → AreNotesBy spec ps faulty notes
notes_kept spec ps true notes h = h
notes_kept spec ps false notes h = (h.0, unlisted_kept spec.ends spec.apps spec.apps ps h.0 (λ app has. has) h.1, h.2 ∙ all_same spec ps h.0)

-- ---- with those of replicas

names_kept : (apps : List App) (ps : List PartLog) → map part_name (wanted_logs apps ps) ≡ map part_name ps
names_kept apps [] = refl
names_kept apps (p ∷ ps) = ap (λ (ns : List PartitionName). part_name p ∷ ns) (names_kept apps ps)

replaced_kept : (apps : List App) (ps : List PartLog) (epochs : List (List EpochEntry)) (app : App) → Has apps app → others_in (wanted_logs apps ps) epochs app ≡ others_in ps epochs app
replaced_kept apps ps epochs app has =
    let names = names_kept apps ps in
    let commits = commits_kept apps ps app has in
    let led = epochs_kept apps app.group app.sources ps in
    λ i. by_entries (other_at app.group (λ name. (committed_offset (commits i) name, committed_epoch (led i) name))) (names i) epochs

all_replaced : (spec : SpecFields) (ps : List PartLog) (epochs : List (List EpochEntry)) (faulty : Bool) → others_unless faulty (wanted_logs spec.apps ps) epochs spec.apps ≡ others_unless faulty ps epochs spec.apps
all_replaced spec ps epochs true = refl
all_replaced spec ps epochs false = flat_same (others_in (wanted_logs spec.apps ps) epochs) (others_in ps epochs) spec.apps (replaced_kept spec.apps ps epochs)

replicas_kept : (spec : SpecFields) (ps : List PartLog) (epochs : List (List EpochEntry)) (faulty : Bool) → of_replicas spec (wanted_logs spec.apps ps) epochs faulty ≡ of_replicas spec ps epochs faulty
replicas_kept spec ps epochs faulty =
    let names = names_kept spec.apps ps in
    let replaced = all_replaced spec ps epochs faulty in
    λ i. falls (names i) epochs ++ replaced i

pub whole_all : (e : EvidenceParts) (ls : List PartLog) (fs : List (Option PartitionFault)) (epochs : List (List EpochEntry)) (notes : List Note) → AreLogsOf e.partitions ls → AreFaultsIn e.partitions fs → HaveEpochs e.partitions epochs
    → AreAllNotesBy e.spec (wanted_logs e.spec.apps ls) epochs (is_some (first_of fs)) notes → AreAllNotes e notes
whole_all e ls fs epochs notes of named have by =
    all_are e ls fs epochs notes of named have
    (by.0, notes_kept e.spec ls (is_some (first_of fs)) by.0 by.1, by.2 ∙ ap (λ (more : List Note). by.0 ++ more) (replicas_kept e.spec ls epochs (is_some (first_of fs))))

pub whole_all_text : (e : EvidenceParts) (ls : List PartLog) (fs : List (Option PartitionFault)) (epochs : List (List EpochEntry)) (quiet : Bool) (text : List ℕ) → AreLogsOf e.partitions ls → AreFaultsIn e.partitions fs
    → HaveEpochs e.partitions epochs → IsAllNotesTextBy e.spec (wanted_logs e.spec.apps ls) epochs (is_some (first_of fs)) quiet text → IsAllNotesText e quiet text
whole_all_text e ls fs epochs true text of named have by = by
whole_all_text e ls fs epochs false text of named have by = (by.0, whole_all e ls fs epochs by.0 of named have by.1, by.2)

pub kept_in_order : (e : EvidenceParts) (ls : List PartLog) → IsEvidence e → AreLogsOf e.partitions ls → AreInOrder (wanted_logs e.spec.apps ls)
kept_in_order e ls is of = (all_kept e.spec.apps ls).1 (in_order e ls is of)
