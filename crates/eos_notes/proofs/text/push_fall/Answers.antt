use Rattle.eos_notes.specs.Texts.{note_text}
use Rattle.eos_notes.proofs.LastCalls.{last}
use Rattle.eos_notes.proofs.text.push_fall.Goals as goal

pub returns : goal.returns
unfolding note_text
returns c =
    let topic = simp c.as_slice.ensures at c.in_ok-push_escaped.ensures in
    last _ _ _ topic (last _ _ _ c.in_ok-push_value.ensures c.push_value-2.ensures)
