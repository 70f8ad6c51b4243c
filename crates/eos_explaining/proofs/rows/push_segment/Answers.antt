use Rattle.eos_explaining.specs.RowLines.{segment_line}
use Rattle.eos_explaining.proofs.LastCalls.{last}
use Rattle.eos_explaining.proofs.rows.push_segment.Goals as goal

pub returns : goal.returns
unfolding segment_line
returns c = last _ _ _ c.in_ok-push_name.ensures (last _ _ _ c.in_ok-push_value.ensures (last _ _ _ c.in_ok-push_value-2.ensures c.push_text.ensures))
