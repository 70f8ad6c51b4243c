use Rattle.eos_picture.specs.Titles.{place_text}
use Rattle.eos_picture.proofs.LastTexts.{last}
use Rattle.eos_picture.proofs.told.push_place.Goals as goal

pub returns : goal.returns
unfolding place_text
returns c = last _ _ _ (rw c.as_slice.ensures at c.in_ok-push_escaped.ensures) (last _ _ _ c.in_ok-push_value.ensures c.push_offset.ensures)
