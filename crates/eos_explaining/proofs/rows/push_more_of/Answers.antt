use Rattle.eos_explaining.proofs.LastCalls.{last}
use Rattle.eos_explaining.proofs.rows.push_more_of.Goals as goal

pub returns : goal.returns
returns c = last _ _ _ c.in_ok-push_text.ensures c.push_more.ensures
