use Rattle.eos_story.proofs.ClaimsTold.{claim_told}
use Rattle.eos_story.proofs.claims.push_claim.Goals as goal

pub returns : goal.returns
returns c = claim_told c.args.sought.now c.args.find.now c.in_ok-push_find.ensures c.in_ok-push_end.ensures
