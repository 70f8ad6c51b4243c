use Rattle.eos_explaining.proofs.LastCalls.{last}
use Rattle.eos_explaining.proofs.records.push_none_alike.Goals as goal

pub returns : goal.returns
returns c = last _ _ _ c.in_ok-push_at.ensures c.push_value.ensures
