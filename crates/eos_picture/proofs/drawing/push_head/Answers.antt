use Rattle.eos_picture.specs.Shapes.{head_text}
use Rattle.eos_text.proofs.Appended.{then}
use Rattle.eos_picture.proofs.drawing.push_head.Goals as goal

pub returns : goal.returns
unfolding head_text
returns c = then c.in_ok-push_pair.ensures (then c.in_ok-push_pair-2.ensures (then c.in_ok-push_text.ensures (then (rw c.as_bytes.ensures.value at c.in_ok-push_xml.ensures) c.in_ok-push_text-2.ensures)))
