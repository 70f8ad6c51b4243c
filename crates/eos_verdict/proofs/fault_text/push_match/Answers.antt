use Rattle.eos_verdict.specs.FaultTexts.{match_text}
use Rattle.eos_text.proofs.Appended.{then}
use Rattle.eos_verdict.proofs.fault_text.push_match.Goals as goal

pub returns : goal.returns
unfolding match_text
returns c = then c.in_ok-push_value.ensures (then c.in_ok-push_value-2.ensures c.in_ok-push_in_partition.ensures)
