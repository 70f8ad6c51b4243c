use Rattle.std.proofs.Common.{◌≡◌, take, map}
use Rattle.eos_table.specs.steps.Keys.{plain_ended, marked}
use Rattle.eos_table.proofs.key.marked_keys.Given as goal

abbrev pub invariant-loop-part : goal.invariant-loop-part
invariant-loop-part l = map plain_ended l.keys.items ≡ marked l.shard.of l.shard.number (take l.part-index l.parts)
