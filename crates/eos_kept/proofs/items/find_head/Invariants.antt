use Rattle.std.proofs.Common.{◌≡◌, ◌+◌, take}
use Rattle.eos_kept.specs.steps.Counts.{count_in}
use Rattle.eos_kept.proofs.items.find_head.Given as goal

abbrev pub invariant-loop-i : goal.invariant-loop-i
invariant-loop-i l = l.place ≡ count_in (take l.i l.heads) + l.left
