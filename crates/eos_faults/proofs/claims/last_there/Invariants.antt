use Rattle.std.proofs.Common.{take}
use Rattle.eos_faults.specs.steps.SourceClaims.{DoNumbersRise, IsLastThere}
use Rattle.eos_faults.proofs.claims.last_there.Given as goal

abbrev pub invariant-loop-claim : goal.invariant-loop-claim
invariant-loop-claim l = DoNumbersRise l.claims → IsLastThere (take l.claim-index l.claims) l.last
