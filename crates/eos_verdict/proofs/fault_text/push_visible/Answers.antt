use Rattle.eos_verdict.specs.FaultTexts.{visible_text}
use Rattle.eos_text.proofs.Appended.{then}
use Rattle.eos_verdict.proofs.fault_text.push_visible.Goals as goal

pub returns : goal.returns
unfolding visible_text
returns c =
    let place = simp c.as_slice.ensures at c.in_ok-push_offset.ensures in
    then place c.in_ok-push_visible_details.ensures
