use Rattle.std.proofs.Common.{sym, subst}
use Rattle.std.proofs.lemmas.Result.{IfOk-weaker}
use Rattle.eos_base.specs.AllOf.{IsAllOf}
use Rattle.eos_commits.specs.Faults.{visible_cmp, Stands}
use Rattle.eos_commits.specs.steps.Gathered.{gathered}
use Rattle.eos_commits.proofs.FrontGathered.{all_of}
use Rattle.eos_commits.proofs.SpotsListed.{law}
use Rattle.eos_commits.proofs.faults.all_record_faults.Goals as goal

pub returns : goal.returns
returns c = λ order.
    let roles = c.in_ok-roles.roles in
    let all = law c.args.apps.now c.args.parts.now roles c.in_ok-roles.ensures.sources c.in_ok-roles.ensures.outputs order in
    IfOk-weaker c.gather.result _ _ (λ faults is. subst (IsAllOf visible_cmp (Stands c.args.apps.now c.args.parts.now)) (sym (all_of faults.items (gathered roles c.args.parts.now) is)) all) c.gather.ensures
