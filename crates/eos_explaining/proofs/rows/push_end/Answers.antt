use Rattle.eos_explaining.specs.RowLines.{end_line}
use Rattle.eos_explaining.proofs.LastCalls.{last}
use Rattle.eos_explaining.proofs.rows.push_end.Goals as goal

pub returns : goal.returns
unfolding end_line
returns c = last _ _ _ c.in_ok-push_name.ensures (last _ _ _ c.in_ok-push_value.ensures c.push_text.ensures)
