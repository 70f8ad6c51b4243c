use Rattle.std.proofs.Common.{List, ℕ, drop}
use Rattle.eos_segment.specs.steps.Feeding.{IsBefore}
use Rattle.eos_segment.proofs.fed.pass_heads.Given as goal

abbrev pub invariant-loop-head : goal.invariant-loop-head
invariant-loop-head l = (fed rest : List ℕ) → IsBefore fed rest l.heads l.initial.walk → IsBefore fed rest (drop l.head-index l.heads) l.walk
