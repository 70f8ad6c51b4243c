use Rattle.std.proofs.Common.{◌≡◌, length, map, sym, arith, ◌∙◌}
use Rattle.std.proofs.lemmas.Result.{on_ok_weaker}
use Rattle.eos_check.specs.Verdicts.{StandsInMatching}
use Rattle.eos_verdict.specs.declared.verdict.Fault.TheVariants.{Match}
use Rattle.eos_source_check.proofs.AllPhases.{none_there, found_in_matching}
use Rattle.eos_source_check.proofs.later.after_log.Goals as goal

pub returns-then-is_empty : goal.returns-then-is_empty
returns-then-is_empty g c =
    let faults = c.in_ok-faults.faults in
    let ok = faults.ok in
    let len : faults.len ≡ length faults.items = omega (arith, ok) in
    on_ok_weaker c.after_matching.result (λ told. record {
      list = told.list;
      taken = told.taken;
      holds = λ order no_log.
          told.holds order no_log (none_there (StandsInMatching c.args.logs.now) faults.items faults.len len (sym c.is_empty.ensures ∙ c.if-is_empty.true) c.in_ok-faults.ensures);
    }) c.after_matching.ensures

pub returns : goal.returns
returns g c =
    let faults = c.in_ok-faults.faults in
    let ok = faults.ok in
    let len : faults.len ≡ length faults.items = omega (arith, ok) in
    on_ok_weaker c.take_matching.result (λ taken. record {
      list = map Match faults.items;
      taken = taken;
      holds = λ order no_log.
          found_in_matching c.args.spec.now.apps c.args.logs.now no_log faults.items faults.len len (sym c.is_empty.ensures ∙ c.if-is_empty.false) c.in_ok-faults.ensures;
    }) c.take_matching.ensures
