use Rattle.std.proofs.Common.{◌≡◌, ◌<◌, ◌+◌, ℕ, false, slice_index_or}
use Rattle.eos_evidence.specs.declared.ends.End.{End}
use Rattle.eos_evidence.specs.steps.OrderedEnds.{are_of_one}
use Rattle.eos_evidence.proofs.ends.are_neighbours_apart.Given as goal

abbrev pub invariant-loop-i : goal.invariant-loop-i
invariant-loop-i l = (k : ℕ) (d : End) → k < l.i → are_of_one (slice_index_or l.ends k d) (slice_index_or l.ends (k + 1) d) ≡ false
