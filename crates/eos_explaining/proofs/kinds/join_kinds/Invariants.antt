use Rattle.std.proofs.Common.{◌≡◌, ◌≤◌, ◌<◌, ℕ}
use Rattle.std.specs.BTreeMap.{get}
use Rattle.std.specs.Ordering.{nat_cmp}
use Rattle.eos_explaining.specs.steps.Counting.{joined}
use Rattle.eos_explaining.proofs.kinds.join_kinds.Given as goal

abbrev pub invariant-loop-number : goal.invariant-loop-number
invariant-loop-number l =
    ((n : ℕ) → n < l.number → get nat_cmp l.kinds n ≡ joined (get nat_cmp l.fn.kinds n) (get nat_cmp l.more n)) × ((n : ℕ) → l.number ≤ n → get nat_cmp l.kinds n ≡ get nat_cmp l.fn.kinds n)
