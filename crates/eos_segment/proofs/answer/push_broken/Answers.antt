use Rattle.eos_segment.specs.Answer.{fault_line}
use Rattle.eos_text.proofs.Appended.{then}
use Rattle.eos_segment.proofs.answer.push_broken.Goals as goal

pub returns : goal.returns
unfolding fault_line
returns c =
    let number = simp c.number.ensures at c.in_ok-push_value.ensures in
    let name = simp c.name.ensures at c.in_ok-push_value-2.ensures in
    then number (then name (then c.in_ok-push_value-3.ensures (then c.in_ok-push_details.ensures c.in_ok-push_text.ensures)))
