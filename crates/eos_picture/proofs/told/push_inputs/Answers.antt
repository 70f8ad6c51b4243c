use Rattle.eos_picture.proofs.LastTexts.{last}
use Rattle.eos_picture.proofs.told.push_inputs.Goals as goal

pub returns : goal.returns
returns c = last _ _ _ c.in_ok-push_text.ensures (last _ _ _ c.in_ok-push_passed.ensures (simp c.fate_words.ensures at c.push_value.ensures))
