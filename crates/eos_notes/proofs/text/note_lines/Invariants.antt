use Rattle.std.proofs.Common.{◌≡◌, take, string_bytes}
use Rattle.eos_notes.specs.Texts.{note_lines}
use Rattle.eos_notes.proofs.text.note_lines.Given as goal

abbrev pub invariant-loop-note : goal.invariant-loop-note
invariant-loop-note l = string_bytes l.text ≡ note_lines (take l.note-index l.notes)
