use Rattle.eos_notes.specs.Texts.{note_text}
use Rattle.eos_notes.proofs.LastCalls.{last}
use Rattle.eos_notes.proofs.text.push_no_internal.Goals as goal

pub returns : goal.returns
unfolding note_text
returns c =
    let name = simp c.name.ensures at c.in_ok-push_value.ensures in
    last _ _ _ name c.push_text.ensures
