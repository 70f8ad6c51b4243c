use Rattle.eos_text.proofs.Appended.{then}
use Rattle.eos_manifest.proofs.coordinator.push_coordinator.Goals as goal

pub returns : goal.returns
returns c =
    let name = simp c.as_bytes.ensures.value at c.in_ok-push_escaped.ensures in
    let number = simp c.number_of.ensures.value at c.in_ok-push_value.ensures in
    then name (then number c.in_ok-push_text.ensures)
