use Rattle.std.proofs.Common.{[]}
use Rattle.eos_story.proofs.RowsPushed.{one_of_all}
use Rattle.eos_story.proofs.ClaimsTold.{claims_more, claims_whole}
use Rattle.eos_story.specs.steps.Claims.{AreClaimsTold}
use Rattle.eos_story.proofs.RowsTold.{told_nothing}
use Rattle.eos_story.proofs.claims.push_each.Goals as goal

pub push_claim-requires : goal.push_claim-requires
push_claim-requires c = one_of_all _ c.args.finds.now c.loop-find.find-index c.find-item.result c.requires c.loop-find-test.true c.find-item.is

pub loop-find-preserved : goal.loop-find-preserved
loop-find-preserved c = claims_more c.args.sought.now c.args.finds.now c.loop-find.find-index c.find-item.result c.loop-find.invariant c.in_ok-push_claim.ensures c.loop-find-test.true c.find-item.is

pub returns : goal.returns
returns c = claims_whole c.args.sought.now c.args.finds.now c.loop-find.find-index c.loop-find.invariant c.loop-find-test.false

pub loop-find-init : goal.loop-find-init
loop-find-init c = told_nothing c.args.scene.now c.args.rows.now.items (AreClaimsTold c.args.scene.now.logs.now c.args.sought.now []) (tt, tt)
