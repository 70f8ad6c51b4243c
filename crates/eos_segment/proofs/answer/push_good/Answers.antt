use Rattle.eos_segment.specs.Answer.{good_line}
use Rattle.eos_text.proofs.Appended.{then}
use Rattle.eos_segment.proofs.answer.push_good.Goals as goal

pub returns : goal.returns
unfolding good_line
returns c = then c.in_ok-push_value.ensures (then c.in_ok-push_value-2.ensures c.in_ok-push_text.ensures)
