use Rattle.eos_verdict.specs.FaultTexts.{fault_text}
use Rattle.eos_text.proofs.Appended.{then}
use Rattle.eos_verdict.proofs.fault_text.push_fault.Goals as goal

pub returns : goal.returns
unfolding fault_text
returns c =
    let phase = simp c.phase.ensures at c.in_ok-push_value.ensures in
    let number = simp c.number.ensures at c.in_ok-push_value-2.ensures in
    let name = simp c.name.ensures at c.in_ok-push_value-3.ensures in
    then phase (then number (then name c.in_ok-push_where.ensures))
