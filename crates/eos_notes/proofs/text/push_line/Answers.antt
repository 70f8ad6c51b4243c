use Rattle.eos_notes.specs.Texts.{note_line}
use Rattle.eos_notes.proofs.LastCalls.{last}
use Rattle.eos_notes.proofs.text.push_line.Goals as goal

pub returns : goal.returns
unfolding note_line
returns c = last _ _ _ c.in_ok-push_text.ensures (last _ _ _ c.in_ok-push_note.ensures c.push_text-2.ensures)
