use Rattle.eos_text.proofs.Appended.{then}
use Rattle.eos_simulate.specs.LabelTexts.{tail_text}
use Rattle.eos_simulate.proofs.label_lines.push_tail.Goals as goal

pub returns : goal.returns
unfolding tail_text
returns c =
    let codes_are = rw c.tail_codes.ensures at c.in_ok-push_value.ensures in
    let topic = rw c.as_slice.ensures at c.in_ok-push_escaped.ensures in
    then codes_are (then c.in_ok-push_value-2.ensures (then c.in_ok-push_value-3.ensures (then topic (then c.in_ok-push_value-4.ensures
    (then c.in_ok-push_value-5.ensures c.in_ok-push_text.ensures)))))
