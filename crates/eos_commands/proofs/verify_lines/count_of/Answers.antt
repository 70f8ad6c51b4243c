use Rattle.std.proofs.Common.{◌∙◌, sym, arith}
use Rattle.eos_commands.proofs.SortCounts.{counted, passed_by}
use Rattle.eos_commands.proofs.verify_lines.count_of.Goals as goal
use Rattle.eos_commands.proofs.verify_lines.count_of.Goals.{then-is_as, else-is_as}

pub loop-it-preserved : goal.loop-it-preserved
loop-it-preserved c =
    let asked = c.args.asked in
    let found = c.args.found.now in
    let i = c.loop-it.it-index in
    let so_far = c.loop-it.invariant in
    elim c.if-is_as.branch [
      | then-is_as w ↦ (
        counted asked found i c.it-item.result _ _ c.loop-it-test.true c.it-item.is (sym c.is_as.ensures ∙ w.if-is_as.true) so_far.0 w.count-is,
        omega (arith, so_far.1, w.count-is),
      )
      | else-is_as w ↦ (
        passed_by asked found i c.it-item.result _ _ c.loop-it-test.true c.it-item.is (sym c.is_as.ensures ∙ w.if-is_as.false) so_far.0 w.count-is,
        omega (arith, so_far.1, w.count-is),
      )
    ]
