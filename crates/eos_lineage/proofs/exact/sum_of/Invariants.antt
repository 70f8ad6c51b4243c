use Rattle.std.proofs.Common.{◌≡◌, ℕ, List, Some, map, take}
use Rattle.std.specs.List.{sum}
use Rattle.eos_lineage.proofs.exact.sum_of.Given as goal

abbrev pub invariant-loop-i : goal.invariant-loop-i
invariant-loop-i l = (ns : List ℕ) × (take l.i l.counts ≡ map Some ns) × (l.total ≡ sum ns)
