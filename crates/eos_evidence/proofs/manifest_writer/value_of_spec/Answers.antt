-- Each version's value says the parts.
use Rattle.std.proofs.Common.{◌≡◌, ◌∙◌, sym, subst, true, arith}
use Rattle.std.specs.List.{list_all}
use Rattle.std.proofs.lemmas.Result.{IfOk-weaker}
use Rattle.serde_json.specs.View.{view}
use Rattle.eos_evidence.specs.steps.WrittenApps.{are_topics}
use Rattle.eos_evidence.specs.steps.WrittenEnds.{HoldsEnds}
use Rattle.eos_evidence.proofs.SpecsWritten.{passed_tests, apps_topics, topics_at, one_is_written, all_are_written, written_as}
use Rattle.eos_evidence.proofs.manifest_writer.value_of_spec.Goals as goal

pub members_with_ends-requires-clause-legal : goal.members_with_ends-requires-clause-legal
members_with_ends-requires-clause-legal c = rw (c.as_slice.ensures, c.ends.ensures.value) (passed_tests _ c.ends.ensures.accepted).ends

pub value_of_only_app-requires : goal.value_of_only_app-requires
value_of_only_app-requires c =
    let legal = subst (λ l. list_all are_topics l ≡ true) (sym (c.as_slice-apps.ensures ∙ c.apps.ensures.value)) (apps_topics _ c.apps.ensures.accepted) in
    subst (λ a. are_topics a ≡ true) (sym c.index-apps-0.is) (topics_at c.as_slice-apps.result.now 0 c.index-apps-0.result (omega (arith, c.if-apps-eq1.true)) legal)

pub value_of_apps-requires : goal.value_of_apps-requires
value_of_apps-requires c = rw (c.as_slice-apps.ensures, c.apps.ensures.value) (apps_topics _ c.apps.ensures.accepted)

pub returns-then-apps-eq1 : goal.returns-then-apps-eq1
returns-then-apps-eq1 c =
    let has = c.in_ok-members.ensures in
    let ends = subst (HoldsEnds has.inner) (c.as_slice.ensures ∙ c.ends.ensures.value) has.holds in
    let written = one_is_written c.args.spec.now c.as_slice-apps.result.now c.index-apps-0.result _ c.ends.ensures.accepted ends (c.as_slice-apps.ensures ∙ c.apps.ensures.value) c.if-apps-eq1.true c.index-apps-0.is in
    let is = c.value_of_only_app.ensures has.inner has.inner_is in
    record {
      says = IfOk-weaker c.value_of_only_app.result _ _ (λ v is. (written_as _ _ (view v) written is).says) is;
      version = IfOk-weaker c.value_of_only_app.result _ _ (λ v is. (written_as _ _ (view v) written is).version) is;
      shallow = IfOk-weaker c.value_of_only_app.result _ _ (λ v is. (written_as _ _ (view v) written is).shallow) is;
    }

pub returns-else-apps-eq1 : goal.returns-else-apps-eq1
returns-else-apps-eq1 c =
    let has = c.in_ok-members.ensures in
    let ends = subst (HoldsEnds has.inner) (c.as_slice.ensures ∙ c.ends.ensures.value) has.holds in
    let written = all_are_written c.args.spec.now c.as_slice-apps.result.now _ c.ends.ensures.accepted ends (c.as_slice-apps.ensures ∙ c.apps.ensures.value) c.if-apps-eq1.false in
    let is = c.value_of_apps.ensures has.inner has.inner_is in
    record {
      says = IfOk-weaker c.value_of_apps.result _ _ (λ v is. (written_as _ _ (view v) written is).says) is;
      version = IfOk-weaker c.value_of_apps.result _ _ (λ v is. (written_as _ _ (view v) written is).version) is;
      shallow = IfOk-weaker c.value_of_apps.result _ _ (λ v is. (written_as _ _ (view v) written is).shallow) is;
    }
