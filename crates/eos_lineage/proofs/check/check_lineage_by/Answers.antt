use Rattle.std.proofs.Common.{◌≡◌, ◌∙◌, sym, subst, true, List, Option}
use Rattle.eos_base.specs.Least.{IsLeast, IsLeastOrNone}
use Rattle.eos_evidence.specs.declared.application.App.{App}
use Rattle.eos_evidence.specs.SpecFields.{groups_of}
use Rattle.eos_evidence.specs.Topics.{are_unequal}
use Rattle.eos_verdict.specs.declared.visible_fault.VisibleFault.{VisibleFault}
use Rattle.eos_commits.specs.Faults.{visible_cmp, Stands}
use Rattle.eos_lineage.proofs.FirstFault.{least_record, unequal_groups}
use Rattle.eos_lineage.proofs.check.check_lineage_by.Goals as goal

pub returns-in-Some : goal.returns-in-Some
returns-in-Some g c = λ are.
    let apps = c.as_slice-apps.ensures ∙ c.apps.ensures.value in
    let here = subst (λ (o : Option VisibleFault). IsLeastOrNone visible_cmp (Stands c.as_slice-apps.result.now c.args.parts.now) o) c.in-Some.is (c.in_ok-fault.ensures are) in
    least_record c.args.spec.now.apps c.args.parts.now c.in-Some.fault (subst (λ (xs : List App). IsLeast visible_cmp (Stands xs c.args.parts.now) c.in-Some.fault) apps here)

pub check_outputs-requires-after_bounds : goal.check_outputs-requires-after_bounds
check_outputs-requires-after_bounds g c κs within =
    let apps = c.as_slice-apps.ensures ∙ c.apps.ensures.value in
    subst (λ (xs : List App). are_unequal (groups_of xs) ≡ true) (sym apps) (unequal_groups c.args.spec.now c.apps.ensures.accepted)
