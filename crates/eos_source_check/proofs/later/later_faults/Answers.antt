use Rattle.std.proofs.Common.{◌≡◌, List, length, map, sym, subst, arith, ◌∙◌}
use Rattle.std.proofs.lemmas.Result.{on_ok_weaker}
use Rattle.eos_check.specs.Verdicts.{StandsInLog}
use Rattle.eos_check.proofs.TransactionLogInOrder.{log_in_order}
use Rattle.eos_verdict.specs.declared.verdict.Fault.TheVariants.{Log}
use Rattle.eos_fold.specs.Parts.{PartLog}
use Rattle.eos_commits.specs.Faults.{AreInOrder}
use Rattle.eos_source_check.specs.LaterFaults.{AreLaterFaults}
use Rattle.eos_source_check.proofs.AllPhases.{none_there, found_in_log}
use Rattle.eos_source_check.proofs.later.later_faults.Goals as goal

pub returns-then-is_empty : goal.returns-then-is_empty
returns-then-is_empty g c =
    let logs = c.as_slice-logs.result.now in
    let faults = c.in_ok-faults.faults in
    let ok = faults.ok in
    let len : faults.len ≡ length faults.items = omega (arith, ok) in
    on_ok_weaker c.after_log.result (λ told. record {
      list = told.list;
      taken = told.taken;
      holds = λ order.
          let here : AreInOrder logs = subst AreInOrder (sym c.as_slice-logs.ensures.value) order in
          let all = c.in_ok-faults.ensures (log_in_order logs here) in
          subst (λ (ls : List PartLog). AreLaterFaults c.args.spec.now.apps ls told.list) c.as_slice-logs.ensures.value
          (told.holds here (none_there (StandsInLog logs) faults.items faults.len len (sym c.is_empty.ensures ∙ c.if-is_empty.true) all));
    }) c.after_log.ensures

pub returns : goal.returns
returns g c =
    let logs = c.as_slice-logs.result.now in
    let faults = c.in_ok-faults.faults in
    let ok = faults.ok in
    let len : faults.len ≡ length faults.items = omega (arith, ok) in
    on_ok_weaker c.take_log.result (λ taken. record {
      list = map Log faults.items;
      taken = taken;
      holds = λ order.
          let here : AreInOrder logs = subst AreInOrder (sym c.as_slice-logs.ensures.value) order in
          subst (λ (ls : List PartLog). AreLaterFaults c.args.spec.now.apps ls (map Log faults.items)) c.as_slice-logs.ensures.value
          (found_in_log c.args.spec.now.apps logs faults.items faults.len len (sym c.is_empty.ensures ∙ c.if-is_empty.false) (c.in_ok-faults.ensures (log_in_order logs here)));
    }) c.take_log.ensures
