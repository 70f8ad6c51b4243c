use Rattle.eos_text.proofs.Appended.{then}
use Rattle.eos_segment.proofs.lines.push_head.Goals as goal

pub returns : goal.returns
returns c =
    then c.in_ok-push_begin.ensures (then c.in_ok-push_producer.ensures (then c.in_ok-push_value.ensures c.in_ok-push_text.ensures))
