use Rattle.eos_text.proofs.Appended.{then}
use Rattle.eos_segment.proofs.lines.push_fault.Goals as goal

pub returns : goal.returns
returns c =
    let name = simp c.name.ensures at c.in_ok-push_value-2.ensures in
    then c.in_ok-push_value.ensures (then name c.in_ok-push_text.ensures)
