use Rattle.std.proofs.Common.{◌∙◌, List, ap, take_all}
use Rattle.eos_notes.specs.declared.note.Note.{Note}
use Rattle.eos_notes.specs.Texts.{note_line, note_lines}
use Rattle.eos_notes.proofs.PushedMore.{made_more}
use Rattle.eos_notes.proofs.text.note_lines.Goals as goal

pub loop-note-preserved : goal.loop-note-preserved
loop-note-preserved c =
    made_more note_line _ _ c.args.notes.now c.loop-note.note-index c.note-item.result c.loop-note-test.true c.note-item.is c.loop-note.invariant c.in_ok-push_line.ensures.whole

pub returns : goal.returns
returns c = c.loop-note.invariant ∙ ap (λ (notes : List Note). note_lines notes) (take_all c.loop-note.note-index c.args.notes.now c.loop-note-test.false)
