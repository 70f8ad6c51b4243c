use Rattle.std.proofs.Common.{take}
use Rattle.eos_story.specs.steps.Claims.{AreClaimsTold}
use Rattle.eos_story.specs.steps.Telling.{Tells}
use Rattle.eos_story.proofs.claims.push_each.Given as goal

abbrev pub invariant-loop-find : goal.invariant-loop-find
invariant-loop-find l = Tells l.scene l.fn.rows.items l.rows.items (AreClaimsTold l.scene.logs.now l.sought (take l.find-index l.finds))
