use Rattle.eos_explaining.specs.Batches.{touch_text}
use Rattle.eos_explaining.proofs.LastCalls.{last}
use Rattle.eos_explaining.proofs.batches.push_touch.Goals as goal

pub returns : goal.returns
unfolding touch_text
returns c = last _ _ _ c.in_ok-push_value.ensures (last _ _ _ c.in_ok-push_value-2.ensures c.push_content.ensures)
