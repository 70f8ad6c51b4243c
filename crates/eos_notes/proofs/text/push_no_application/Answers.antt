use Rattle.eos_notes.specs.Texts.{note_text}
use Rattle.eos_notes.proofs.text.push_no_application.Goals as goal

pub returns : goal.returns
unfolding note_text
returns c = c.push_text.ensures
