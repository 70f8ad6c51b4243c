use Rattle.eos_verdict.specs.FaultTexts.{offset_text}
use Rattle.eos_text.proofs.Appended.{then}
use Rattle.eos_verdict.proofs.fault_text.push_offset.Goals as goal

pub returns : goal.returns
unfolding offset_text
returns c = then c.in_ok-push_name.ensures c.in_ok-push_value.ensures
