use Rattle.std.proofs.Common.{◌≡◌, take, map}
use Rattle.eos_table.specs.steps.Wanted.{close_end}
use Rattle.eos_table.proofs.agree.ends_in_order.Given as goal

abbrev pub invariant-loop-close : goal.invariant-loop-close
invariant-loop-close l = l.ends.items ≡ map close_end (take l.close-index l.closes)
