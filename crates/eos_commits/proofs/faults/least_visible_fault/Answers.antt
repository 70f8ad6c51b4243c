use Rattle.std.proofs.lemmas.Result.{IfOk-weaker}
use Rattle.eos_commits.proofs.FrontGathered.{law}
use Rattle.eos_commits.proofs.faults.least_visible_fault.Goals as goal

pub returns : goal.returns
returns c = λ order.
    IfOk-weaker c.first_fault.result _ _ (law c.args.apps.now c.args.parts.now c.in_ok-roles.roles c.in_ok-roles.ensures.sources c.in_ok-roles.ensures.outputs order) c.first_fault.ensures
