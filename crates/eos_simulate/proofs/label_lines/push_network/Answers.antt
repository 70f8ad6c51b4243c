use Rattle.eos_text.proofs.Appended.{then}
use Rattle.eos_simulate.specs.LabelTexts.{network_text}
use Rattle.eos_simulate.proofs.label_lines.push_network.Goals as goal

pub returns : goal.returns
unfolding network_text
returns c = then c.in_ok-push_value.ensures (then c.in_ok-push_value-2.ensures (then c.in_ok-push_value-3.ensures c.in_ok-push_text.ensures))
