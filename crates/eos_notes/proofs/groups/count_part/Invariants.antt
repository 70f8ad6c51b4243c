use Rattle.std.proofs.Common.{◌≡◌, ◌+◌, length}
use Rattle.eos_notes.specs.steps.Counted.{count_visible, count_below}
use Rattle.eos_notes.proofs.groups.count_part.Given as goal

-- those counted, and what is left
abbrev pub invariant-loop-batch : goal.invariant-loop-batch
invariant-loop-batch l = (l.count.inputs + count_visible l.batches ≡ l.fn.before.inputs + count_visible l.part.items)
    × (l.count.below + count_below l.committed l.batches ≡ l.fn.before.below + count_below l.committed l.part.items)

abbrev pub decreases-loop-batch : goal.decreases-loop-batch
decreases-loop-batch l = length l.batches
