use Rattle.std.proofs.Common.{◌∙◌, sym, arith}
use Rattle.eos_manifest.proofs.TopicCounts.{counted, passed_by}
use Rattle.eos_manifest.proofs.coordinator.count_of.Goals as goal
use Rattle.eos_manifest.proofs.coordinator.count_of.Goals.{then-is_of, else-is_of}

pub loop-end-preserved : goal.loop-end-preserved
loop-end-preserved c =
    let topic = c.args.topic.now in
    let ends = c.args.ends.now in
    let i = c.loop-end.end-index in
    let so_far = c.loop-end.invariant in
    elim c.if-is_of.branch [
      | then-is_of w ↦ (
        counted topic ends i c.end-item.result _ _ c.loop-end-test.true c.end-item.is (sym c.is_of.ensures ∙ w.if-is_of.true) so_far.0 w.count-is,
        omega (arith, so_far.1, w.count-is),
      )
      | else-is_of w ↦ (
        passed_by topic ends i c.end-item.result _ _ c.loop-end-test.true c.end-item.is (sym c.is_of.ensures ∙ w.if-is_of.false) so_far.0 w.count-is,
        omega (arith, so_far.1, w.count-is),
      )
    ]
