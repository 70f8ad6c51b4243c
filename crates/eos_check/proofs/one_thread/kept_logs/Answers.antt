use Rattle.std.proofs.Common.{◌≡◌, List, ap, ◌∙◌, rules}
use Rattle.eos_evidence.specs.declared.application.App.{App}
use Rattle.eos_reading.specs.Wanted.{wanted_of}
use Rattle.eos_check.proofs.HeldLogs.{kept_next}
use Rattle.eos_check.proofs.one_thread.kept_logs.Goals as goal

pub loop-i-preserved : goal.loop-i-preserved
loop-i-preserved c =
    let apps = c.args.evidence.now.spec.apps in
    let p = c.index-partitions-i.result in
    let same : c.as_slice-apps.result.now ≡ apps = search rules in
    let wanted = c.of_topic.ensures c.as_slice-apps.result.now c.in_ok-wants.ensures ∙ (ap (λ t. wanted_of c.as_slice-apps.result.now t) c.as_slice-topic.ensures
    ∙ ap (λ (xs : List App). wanted_of xs p.end.topic) same) in
    search (
      rules,
      kept_next apps c.partitions-partitions.result.now c.loop-i.i c.loop-i.parts.items c.loop-i.faults.items p c.in_ok-told.told c.of_topic.result
          c.loop-i-test.true c.index-partitions-i.is c.loop-i.invariant wanted c.in_ok-told.ensures,
    )
