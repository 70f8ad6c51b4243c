use Rattle.eos_segment.specs.DecodedLines.{deleted_line}
use Rattle.eos_text.proofs.Appended.{then}
use Rattle.eos_segment.proofs.commit.push_deleted.Goals as goal

pub returns : goal.returns
unfolding deleted_line
returns c = then c.in_ok-push_head.ensures c.in_ok-push_text.ensures
