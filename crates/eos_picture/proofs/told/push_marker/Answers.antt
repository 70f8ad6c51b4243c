use Rattle.eos_picture.proofs.LastTexts.{last}
use Rattle.eos_picture.proofs.told.push_marker.Goals as goal

pub returns : goal.returns
returns c = last _ _ _ (simp c.kind_words.ensures at c.in_ok-push_value.ensures) c.push_count.ensures
