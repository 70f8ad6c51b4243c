use Rattle.std.proofs.Common.{◌≡◌, ◌+◌, ◌-◌, ◌++◌, ℕ, List}
use Rattle.eos_lineage.specs.steps.Keys.{steps}
use Rattle.eos_lineage.proofs.exact.after_steps.Given as goal

-- what follows the steps that are left follows all
abbrev pub invariant-loop-step : goal.invariant-loop-step
invariant-loop-step l = (rest : List ℕ) → l.left ≡ steps (l.last + 1024) (l.count - l._step) ++ rest → l.fn.keys ≡ steps (l.fn.first + 1024) l.fn.count ++ rest
