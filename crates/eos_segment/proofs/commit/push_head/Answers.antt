use Rattle.eos_segment.specs.DecodedLines.{commit_head}
use Rattle.eos_text.proofs.Appended.{then}
use Rattle.eos_segment.proofs.commit.push_head.Goals as goal

pub returns : goal.returns
unfolding commit_head
returns c = then c.in_ok-push_escaped.ensures c.in_ok-push_name.ensures
