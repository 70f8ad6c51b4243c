use Rattle.eos_explaining.proofs.LastCalls.{last}
use Rattle.eos_explaining.proofs.records.push_none_within.Goals as goal

pub returns : goal.returns
returns c = last _ _ _ c.in_ok-push_value.ensures (last _ _ _ c.in_ok-push_value-2.ensures c.push_value-3.ensures)
