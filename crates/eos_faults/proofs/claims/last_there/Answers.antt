use Rattle.std.proofs.Common.{subst}
use Rattle.std.proofs.lemmas.List.{take_all}
use Rattle.eos_faults.specs.steps.SourceClaims.{IsLastThere}
use Rattle.eos_faults.proofs.NumbersThere.{none_there, there_next}
use Rattle.eos_faults.proofs.claims.last_there.Goals as goal

pub loop-claim-init : goal.loop-claim-init
loop-claim-init c = λ rise. none_there

pub loop-claim-preserved : goal.loop-claim-preserved
loop-claim-preserved c = λ rise. there_next c.args.claims.now rise c.loop-claim.claim-index _ c.loop-claim-test.true c.loop-claim.last c.next_there-last.result (c.loop-claim.invariant rise) c.next_there-last.ensures

pub returns : goal.returns
returns c = λ rise. subst (λ cs. IsLastThere cs c.loop-claim.last) (take_all c.loop-claim.claim-index c.args.claims.now c.loop-claim-test.false) (c.loop-claim.invariant rise)
