use Rattle.std.proofs.Common.{◌≤◌, ◌-◌, length}
use Rattle.eos_base.specs.Least.{UpTo}
use Rattle.eos_claims.specs.Faults.{place_cmp}
use Rattle.eos_faults.specs.steps.Plain.{place_at}
use Rattle.eos_faults.specs.steps.BySource.{AllFrom, itself}
use Rattle.eos_faults.proofs.by_source.end_of_inputs.Given as goal

abbrev pub invariant-loop-input : goal.invariant-loop-input
invariant-loop-input l = (l.from ≤ l.end) × (l.end ≤ length l.inputs) × AllFrom (λ x. UpTo place_cmp (place_at (itself x)) (place_at l.source)) l.inputs l.from l.end

abbrev pub decreases-loop-input : goal.decreases-loop-input
decreases-loop-input l = length l.inputs - l.end
