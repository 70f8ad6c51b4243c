use Rattle.std.proofs.Common.{◌≡◌, take, map}
use Rattle.eos_table.specs.steps.Keys.{ended, plain_ended}
use Rattle.eos_table.proofs.key.ended_keys.Given as goal

abbrev pub invariant-loop-decision : goal.invariant-loop-decision
invariant-loop-decision l = map plain_ended l.keys.items ≡ ended l.shard.of l.shard.number (take l.decision-index l.decisions)
