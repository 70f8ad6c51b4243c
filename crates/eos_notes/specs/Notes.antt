-- The notes of an evidence: signs that it isn't the one that was meant, in the order in which `check` prints them. They change no
-- verdict.
use Rattle.std.specs.Prelude.{◌≡◌, Bool, true, false, List, map, ◌++◌, Option, is_some}
use Rattle.eos_evidence.specs.Evidence.{EvidenceParts}
use Rattle.eos_evidence.specs.SpecFields.{SpecFields}
use Rattle.eos_touch.specs.declared.fault.PartitionFault.{PartitionFault}
use Rattle.eos_fold.specs.LeastFaults.{IsFirstFault}
use Rattle.eos_fold.specs.Parts.{PartLog, part_name}
use Rattle.eos_commits.specs.EvidenceLogs.{AreLogsOf}
use Rattle.eos_reading.specs.declared.epoch.EpochEntry.{EpochEntry}
use Rattle.eos_kept.specs.Parts.{HaveEpochs}
use Rattle.eos_notes.specs.declared.note.Note.{Note}
use Rattle.eos_notes.specs.ManifestNotes.{no_application, absent_topics, gaps, absent_internals}
use Rattle.eos_notes.specs.CommitNotes.{AreUnlistedNotes, past_ends, nothing_committed, behind}
use Rattle.eos_notes.specs.ReplicaNotes.{falls}
use Rattle.eos_notes.specs.ReplacedNotes.{others_unless}

-- what the manifest alone shows
abbrev pub of_manifest : SpecFields → List Note
of_manifest spec = no_application spec.apps ++ (absent_topics spec.ends spec.apps ++ (gaps spec.apps spec.ends ++ absent_internals spec.ends))

-- all, with those of partitions that aren't in `ends`
abbrev pub of_all : SpecFields → List PartLog → List Note → List Note
of_all spec logs unlisted =
    no_application spec.apps ++ (unlisted ++ (past_ends logs spec.apps ++ (absent_topics spec.ends spec.apps ++ (gaps spec.apps spec.ends
    ++ (nothing_committed logs spec.apps ++ (absent_internals spec.ends ++ behind logs spec.apps))))))

-- by whether a partition's log has a fault
abbrev pub AreNotesBy : SpecFields → List PartLog → Bool → List Note → Type 0
AreNotesBy spec logs true notes = notes ≡ of_manifest spec
AreNotesBy spec logs false notes = (unlisted : List Note) × AreUnlistedNotes spec.ends logs spec.apps unlisted × (notes ≡ of_all spec logs unlisted)

-- ---- with those of replicas, by the entries at which the leader epochs of the partitions change

abbrev pub of_replicas : SpecFields → List PartLog → List (List EpochEntry) → Bool → List Note
of_replicas spec logs epochs faulty = falls (map part_name logs) epochs ++ others_unless faulty logs epochs spec.apps

abbrev pub AreAllNotesBy : SpecFields → List PartLog → List (List EpochEntry) → Bool → List Note → Type 0
AreAllNotesBy spec logs epochs faulty notes = (first : List Note) × AreNotesBy spec logs faulty first × (notes ≡ first ++ of_replicas spec logs epochs faulty)

-- of the evidence, over its logs as the verdict sees them
abbrev pub AreAllNotes : EvidenceParts → List Note → Type 0
AreAllNotes e notes =
    (logs : List PartLog) × AreLogsOf e.partitions logs × (fault : Option PartitionFault) × IsFirstFault logs fault × (epochs : List (List EpochEntry)) × HaveEpochs e.partitions epochs
    × AreAllNotesBy e.spec logs epochs (is_some fault) notes
