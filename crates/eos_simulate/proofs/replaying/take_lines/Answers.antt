use Rattle.eos_simulate.proofs.Deeds.{kept_on, line_more, all_passed, fault_differs}
use Rattle.eos_simulate.proofs.replaying.take_lines.Goals as goal

pub loop-line-preserved : goal.loop-line-preserved
loop-line-preserved c =
    let so_far = c.loop-line.invariant in
    let lt = c.loop-line-test.true in
    (kept_on _ _ _ _ _ _ so_far.0 c.take_line.ensures.kept, line_more c.args.lines.now c.loop-line.line-index c.line-item.result _ _ _ lt c.line-item.is so_far.1 c.in_default.ensures.passed)

pub returns-clause-passed : goal.returns-clause-passed
returns-clause-passed c = all_passed c.args.lines.now c.loop-line.line-index _ _ c.loop-line-test.false c.loop-line.invariant.1

pub returns-in-Err-clause-otherwise : goal.returns-in-Err-clause-otherwise
returns-in-Err-clause-otherwise c =
    fault_differs _ c.args.lines.now c.loop-line.line-index c.line-item.result _ _ _ c.loop-line-test.true c.line-item.is c.loop-line.invariant.1 c.in-Err.ensures.otherwise
