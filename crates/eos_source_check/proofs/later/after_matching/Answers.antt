use Rattle.std.proofs.Common.{◌≡◌, List, length, map, sym, subst, arith, ◌∙◌}
use Rattle.std.proofs.lemmas.Result.{on_ok_weaker}
use Rattle.eos_evidence.specs.declared.application.App.{App}
use Rattle.eos_commits.specs.Faults.{visible_cmp, Stands}
use Rattle.eos_base.specs.AllOf.{IsAllOf}
use Rattle.eos_verdict.specs.declared.lineage_fault.LineageFault.TheVariants.{Record}
use Rattle.eos_verdict.specs.declared.verdict.Fault.TheVariants.{Lineage}
use Rattle.eos_source_check.proofs.AllPhases.{none_there, found_in_records}
use Rattle.eos_source_check.proofs.PhaseLists.{lineage_list}
use Rattle.eos_source_check.proofs.later.after_matching.Goals as goal

pub returns-then-is_empty : goal.returns-then-is_empty
returns-then-is_empty g c =
    let apps = c.args.spec.now.apps in
    let logs = c.args.logs.now in
    let faults = c.in_ok-faults.faults in
    let ok = faults.ok in
    let len : faults.len ≡ length faults.items = omega (arith, ok) in
    let same = c.as_slice.ensures ∙ c.apps.ensures.value in
    on_ok_weaker c.output_faults.result (λ told. record {
      list = map Lineage told.0;
      taken = told.1;
      holds = λ order no_log no_match.
          let all = subst (λ (xs : List App). IsAllOf visible_cmp (Stands xs logs) faults.items) same (c.in_ok-faults.ensures order) in
          let none = none_there (Stands apps logs) faults.items faults.len len (sym c.is_empty.ensures ∙ c.if-is_empty.true) all in
          lineage_list apps logs told.0 no_log no_match (told.2 order none);
    }) c.output_faults.ensures

pub returns : goal.returns
returns g c =
    let apps = c.args.spec.now.apps in
    let logs = c.args.logs.now in
    let faults = c.in_ok-faults.faults in
    let ok = faults.ok in
    let len : faults.len ≡ length faults.items = omega (arith, ok) in
    let same = c.as_slice.ensures ∙ c.apps.ensures.value in
    on_ok_weaker c.take_records.result (λ taken. record {
      list = map Lineage (map Record faults.items);
      taken = taken;
      holds = λ order no_log no_match.
          let all = subst (λ (xs : List App). IsAllOf visible_cmp (Stands xs logs) faults.items) same (c.in_ok-faults.ensures order) in
          lineage_list apps logs (map Record faults.items) no_log no_match (found_in_records apps logs faults.items faults.len len (sym c.is_empty.ensures ∙ c.if-is_empty.false) all);
    }) c.take_records.ensures
