use Rattle.eos_verdict.specs.FaultTexts.{partition_text}
use Rattle.eos_text.proofs.Appended.{then}
use Rattle.eos_verdict.proofs.fault_text.push_partition.Goals as goal

pub returns : goal.returns
unfolding partition_text
returns c =
    let place = simp c.as_slice.ensures at c.in_ok-push_offset.ensures in
    then place c.in_ok-push_details.ensures
