use Rattle.eos_picture.specs.Shapes.{told_text}
use Rattle.eos_text.proofs.Appended.{then}
use Rattle.eos_picture.proofs.shape.push_told.Goals as goal

pub returns : goal.returns
unfolding told_text
returns c =
    let text = simp c.as_bytes.ensures.value at c.in_ok-push_xml.ensures in
    then c.in_ok-push_pair.ensures (then c.in_ok-push_pair-2.ensures (then c.in_ok-push_text.ensures (then text c.in_ok-push_text-2.ensures)))
