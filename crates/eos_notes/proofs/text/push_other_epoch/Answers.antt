use Rattle.eos_notes.specs.Texts.{note_text}
use Rattle.eos_notes.proofs.LastCalls.{last}
use Rattle.eos_notes.proofs.text.push_other_epoch.Goals as goal

pub returns : goal.returns
unfolding note_text
returns c =
    let group = simp c.as_bytes.ensures at c.in_ok-push_escaped.ensures in
    let topic = simp c.as_slice.ensures at c.in_ok-push_escaped-2.ensures in
    last _ _ _ group (last _ _ _ c.in_ok-push_value.ensures (last _ _ _ topic (last _ _ _ c.in_ok-push_value-2.ensures (last _ _ _ c.in_ok-push_value-3.ensures c.push_value-4.ensures))))
