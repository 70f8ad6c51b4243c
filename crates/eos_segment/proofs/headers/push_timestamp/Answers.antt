use Rattle.eos_segment.specs.HeaderLines.{timestamp_line}
use Rattle.eos_text.proofs.Appended.{then}
use Rattle.eos_segment.proofs.headers.push_timestamp.Goals as goal

pub returns : goal.returns
unfolding timestamp_line
returns c = then c.in_ok-push_value.ensures c.in_ok-push_text.ensures
