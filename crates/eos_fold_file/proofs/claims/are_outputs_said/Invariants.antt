use Rattle.std.proofs.Common.{All, take}
use Rattle.eos_reading.specs.Outputs.{claim_kept}
use Rattle.eos_reading.specs.Records.{ReadsBack}
use Rattle.eos_fold_file.proofs.claims.are_outputs_said.Given as goal

abbrev pub invariant-loop-output : goal.invariant-loop-output
invariant-loop-output l = All (λ one. ReadsBack (claim_kept l.topics one)) (take l.output-index l.outputs)
