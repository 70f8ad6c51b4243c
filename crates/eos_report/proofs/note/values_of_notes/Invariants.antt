-- The values so far are those of the notes that were passed.
use Rattle.std.proofs.Common.{◌≡◌, map, take}
use Rattle.serde_json.specs.View.{view}
use Rattle.eos_report.specs.NoteValues.{note_value}
use Rattle.eos_report.proofs.note.values_of_notes.Given as goal

abbrev pub invariant-loop-note : goal.invariant-loop-note
invariant-loop-note l = map view l.values.items ≡ map note_value (take l.note-index l.notes)
