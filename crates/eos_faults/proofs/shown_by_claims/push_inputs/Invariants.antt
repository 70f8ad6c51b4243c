use Rattle.std.proofs.Common.{◌≡◌, ◌++◌, take, map, flat_map}
use Rattle.eos_faults.specs.steps.OutputFaultsGathered.{missing_at}
use Rattle.eos_faults.specs.steps.Plain.{fault_of, place_at}
use Rattle.eos_faults.proofs.shown_by_claims.push_inputs.Given as goal

abbrev pub invariant-loop-input : goal.invariant-loop-input
invariant-loop-input l = map fault_of l.faults.items ≡ map fault_of l.fn.faults.items ++ flat_map (λ i. missing_at i l.output) (map place_at (take l.input-index l.inputs))
