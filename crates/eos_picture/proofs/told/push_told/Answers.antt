use Rattle.eos_picture.specs.Titles.{title_of}
use Rattle.eos_picture.proofs.LastTexts.{last}
use Rattle.eos_picture.proofs.told.push_told.Goals as goal

pub returns : goal.returns
unfolding title_of
returns c =
    let place = rw c.offset_of.ensures at c.in_ok-push_place.ensures in
    let fault = rw c.fault_words.ensures at c.push_text.ensures in
    last _ _ _ place (last _ _ _ c.in_ok-push_sign.ensures (last _ _ _ c.in_ok-push_column.ensures (last _ _ _ c.in_ok-push_when.ensures fault)))
