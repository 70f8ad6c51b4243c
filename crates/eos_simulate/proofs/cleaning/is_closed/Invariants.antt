-- The batches that are left say what all of them say.
use Rattle.std.proofs.Common.{◌≡◌, not, drop}
use Rattle.std.specs.List.{list_any}
use Rattle.std.specs.Ordering.{int_eq}
use Rattle.eos_simulate.proofs.cleaning.is_closed.Given as goal

abbrev pub invariant-loop-other : goal.invariant-loop-other
invariant-loop-other l = list_any (λ x. not (int_eq x.base l.logged.base)) (drop l.other-index l.later) ≡ list_any (λ x. not (int_eq x.base l.logged.base)) l.later
