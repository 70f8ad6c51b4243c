use Rattle.std.proofs.Common.{◌≤◌, ◌-◌, length}
use Rattle.eos_base.specs.Least.{UpTo}
use Rattle.eos_claims.specs.Faults.{place_cmp}
use Rattle.eos_faults.specs.steps.Plain.{place_at}
use Rattle.eos_faults.specs.steps.BySource.{AllFrom, source_of}
use Rattle.eos_faults.proofs.by_source.end_of_claims.Given as goal

abbrev pub invariant-loop-claim : goal.invariant-loop-claim
invariant-loop-claim l = (l.from ≤ l.end) × (l.end ≤ length l.claims) × AllFrom (λ x. UpTo place_cmp (place_at (source_of x)) (place_at l.source)) l.claims l.from l.end

abbrev pub decreases-loop-claim : goal.decreases-loop-claim
decreases-loop-claim l = length l.claims - l.end
