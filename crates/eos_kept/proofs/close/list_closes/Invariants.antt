use Rattle.std.proofs.Common.{◌≡◌, take}
use Rattle.eos_kept.specs.steps.Closes.{closes_under}
use Rattle.eos_kept.proofs.close.list_closes.Given as goal

abbrev pub invariant-loop-head : goal.invariant-loop-head
invariant-loop-head l = l.closes.items ≡ closes_under (take l.head-index l.heads)
