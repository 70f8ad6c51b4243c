use Rattle.eos_text.proofs.Appended.{then}
use Rattle.eos_simulate.specs.LabelTexts.{stop_text}
use Rattle.eos_simulate.proofs.label_lines.push_stopped.Goals as goal

pub returns : goal.returns
unfolding stop_text
returns c = then (rw c.stop_codes.ensures at c.in_ok-push_value.ensures) (then c.in_ok-push_value-2.ensures c.in_ok-push_text.ensures)
