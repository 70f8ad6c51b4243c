use Rattle.std.proofs.Common.{◌≡◌, take, map}
use Rattle.eos_table.specs.steps.Keys.{listed, plain_listed}
use Rattle.eos_table.proofs.key.listed_keys.Given as goal

abbrev pub invariant-loop-decision : goal.invariant-loop-decision
invariant-loop-decision l = map plain_listed l.keys.items ≡ listed l.shard.of l.shard.number (take l.decision-index l.decisions)
