use Rattle.eos_explaining.proofs.LastCalls.{last}
use Rattle.eos_explaining.proofs.records.push_undecided.Goals as goal

pub returns : goal.returns
returns c = last _ _ _ c.in_ok-push_value.ensures c.push_value-2.ensures
