use Rattle.eos_segment.specs.Lines.{producer_of}
use Rattle.eos_text.proofs.Appended.{then}
use Rattle.eos_segment.proofs.lines.push_producer.Goals as goal

pub returns : goal.returns
unfolding producer_of
returns c = then c.in_ok-push_value.ensures (then c.in_ok-push_value-2.ensures c.in_ok-push_value-3.ensures)
