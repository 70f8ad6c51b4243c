-- The lines of an evidence's notes.
use Rattle.std.specs.Prelude.{◌≡◌, ℕ, List, [], Bool, true, false}
use Rattle.eos_evidence.specs.Evidence.{EvidenceParts}
use Rattle.eos_evidence.specs.SpecFields.{SpecFields}
use Rattle.eos_fold.specs.Parts.{PartLog}
use Rattle.eos_notes.specs.declared.note.Note.{Note}
use Rattle.eos_reading.specs.declared.epoch.EpochEntry.{EpochEntry}
use Rattle.eos_notes.specs.Notes.{AreAllNotesBy, AreAllNotes}
use Rattle.eos_notes.specs.Texts.{note_lines}

-- the lines of all notes, or nothing where they are left out
abbrev pub IsAllNotesText : EvidenceParts → Bool → List ℕ → Type 0
IsAllNotesText e true text = text ≡ []
IsAllNotesText e false text = (notes : List Note) × AreAllNotes e notes × (text ≡ note_lines notes)

-- the same by the manifest, the logs, the entries at which their leader epochs change, and whether one of the logs has a fault
abbrev pub IsAllNotesTextBy : SpecFields → List PartLog → List (List EpochEntry) → Bool → Bool → List ℕ → Type 0
IsAllNotesTextBy spec logs epochs faulty true text = text ≡ []
IsAllNotesTextBy spec logs epochs faulty false text = (notes : List Note) × AreAllNotesBy spec logs epochs faulty notes × (text ≡ note_lines notes)
