-- The notes by an evidence's manifest and logs are the evidence's.
use Rattle.std.proofs.Common.{ℕ, Bool, true, false, List, Option, is_some}
use Rattle.eos_evidence.specs.Evidence.{EvidenceParts}
use Rattle.eos_fold.specs.Parts.{PartLog}
use Rattle.eos_commits.specs.EvidenceLogs.{AreLogsOf}
use Rattle.eos_kept.specs.Parts.{HaveEpochs}
use Rattle.eos_kept.specs.Faults.{AreFaultsIn, first_of}
use Rattle.eos_touch.specs.declared.fault.PartitionFault.{PartitionFault}
use Rattle.eos_notes.specs.declared.note.Note.{Note}
use Rattle.eos_reading.specs.declared.epoch.EpochEntry.{EpochEntry}
use Rattle.eos_notes.specs.Notes.{AreAllNotesBy, AreAllNotes}
use Rattle.eos_notes.specs.Lines.{IsAllNotesTextBy, IsAllNotesText}
use Rattle.eos_notes.proofs.FirstNamed.{first_named}

pub all_are : (e : EvidenceParts) (ls : List PartLog) (fs : List (Option PartitionFault)) (epochs : List (List EpochEntry)) (notes : List Note) → AreLogsOf e.partitions ls → AreFaultsIn e.partitions fs → HaveEpochs e.partitions epochs
    → AreAllNotesBy e.spec ls epochs (is_some (first_of fs)) notes → AreAllNotes e notes
all_are e ls fs epochs notes of named have by = (ls, of, first_of fs, first_named e.partitions ls of fs named, epochs, have, by)

pub all_text_is : (e : EvidenceParts) (ls : List PartLog) (fs : List (Option PartitionFault)) (epochs : List (List EpochEntry)) (quiet : Bool) (text : List ℕ) → AreLogsOf e.partitions ls → AreFaultsIn e.partitions fs
    → HaveEpochs e.partitions epochs → IsAllNotesTextBy e.spec ls epochs (is_some (first_of fs)) quiet text → IsAllNotesText e quiet text
all_text_is e ls fs epochs true text of named have by = by
all_text_is e ls fs epochs false text of named have by = (by.0, all_are e ls fs epochs by.0 of named have by.1, by.2)
