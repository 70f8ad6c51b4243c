use Rattle.std.proofs.Common.{◌≡◌, ◌++◌, drop}
use Rattle.eos_evidence.specs.Topics.{are_unequal}
use Rattle.eos_evidence.specs.SpecFields.{outputs_of}
use Rattle.eos_evidence.proofs.legal_applications.are_new_outputs.Given as goal

abbrev pub invariant-loop-i : goal.invariant-loop-i
invariant-loop-i l = are_unequal (l.topics ++ outputs_of l.apps) ≡ are_unequal (drop l.i l.topics ++ outputs_of l.apps)
