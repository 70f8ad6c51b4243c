use Rattle.eos_notes.specs.Texts.{note_text}
use Rattle.eos_notes.proofs.LastCalls.{last}
use Rattle.eos_notes.proofs.text.push_nothing_committed.Goals as goal

pub returns : goal.returns
unfolding note_text
returns c =
    let group = simp c.as_bytes.ensures at c.in_ok-push_escaped.ensures in
    last _ _ _ group c.push_text.ensures
