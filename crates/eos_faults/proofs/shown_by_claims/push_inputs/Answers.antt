use Rattle.std.proofs.Common.{map}
use Rattle.eos_faults.specs.steps.OutputFaultsGathered.{missing_at}
use Rattle.eos_faults.specs.steps.Plain.{fault_of, place_at}
use Rattle.eos_faults.proofs.PushedOnto.{pushed_onto}
use Rattle.eos_faults.proofs.shown_by_claims.push_inputs.Goals as goal

pub loop-input-preserved : goal.loop-input-preserved
loop-input-preserved c =
    pushed_onto (λ i. missing_at i c.args.output) place_at (map fault_of c.args.faults.now.items) (map fault_of c.loop-input.faults.items) (map fault_of c.push_missing.new.faults.items) c.args.inputs.now c.loop-input.input-index _ c.loop-input-test.true c.loop-input.invariant
    c.in_ok-push_missing.ensures
