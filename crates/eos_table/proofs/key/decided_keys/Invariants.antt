use Rattle.std.proofs.Common.{◌≡◌, take}
use Rattle.eos_table.specs.steps.Keys.{decided}
use Rattle.eos_table.proofs.key.decided_keys.Given as goal

abbrev pub invariant-loop-decision : goal.invariant-loop-decision
invariant-loop-decision l = l.keys.items ≡ decided l.shard.of l.shard.number (take l.decision-index l.decisions)
