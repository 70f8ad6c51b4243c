use Rattle.std.proofs.Common.{◌≡◌, ◌+◌, drop}
use Rattle.eos_notes.specs.steps.Counted.{count_visible, count_below}
use Rattle.eos_notes.proofs.groups.count_batch.Given as goal

-- those counted, and what is left
abbrev pub invariant-loop-i : goal.invariant-loop-i
invariant-loop-i l = (l.count.inputs + count_visible (drop l.i l.batch) ≡ l.fn.before.inputs + count_visible l.batch)
    × (l.count.below + count_below l.committed (drop l.i l.batch) ≡ l.fn.before.below + count_below l.committed l.batch)
