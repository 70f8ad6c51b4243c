use Rattle.eos_verdict.specs.FaultTexts.{output_text}
use Rattle.eos_text.proofs.Appended.{then}
use Rattle.eos_verdict.proofs.fault_text.push_output.Goals as goal

pub returns : goal.returns
unfolding output_text
returns c = then c.in_ok-push_place.ensures (then c.in_ok-push_value.ensures (then c.in_ok-push_at.ensures c.in_ok-push_group.ensures))
