use Rattle.eos_report.specs.Tellings.{telling_text}
use Rattle.eos_report.proofs.LastCalls.{last}
use Rattle.eos_report.proofs.tellings.push_telling.Goals as goal

pub returns : goal.returns
unfolding telling_text
returns c = last _ _ _ c.in_ok-push_value.ensures (last _ _ _ c.in_ok-push_text.ensures (last _ _ _ c.in_ok-push_story.ensures c.push_picture.ensures))
