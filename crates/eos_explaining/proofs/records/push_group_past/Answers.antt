use Rattle.eos_explaining.proofs.LastCalls.{last}
use Rattle.eos_explaining.proofs.records.push_group_past.Goals as goal

pub returns : goal.returns
returns c = last _ _ _ c.in_ok-push_escaped.ensures c.push_at.ensures
