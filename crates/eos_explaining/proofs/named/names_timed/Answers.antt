use Rattle.std.proofs.Common.{[]}
use Rattle.eos_explaining.specs.steps.Times.{timed_in}
use Rattle.eos_explaining.proofs.Covered.{row_named}
use Rattle.eos_explaining.proofs.named.names_timed.Goals as goal

pub loop-row-preserved : goal.loop-row-preserved
loop-row-preserved c =
    row_named [] c.loop-row.names.items c.push_left.new.names.items timed_in c.args.rows.now c.loop-row.row-index c.row-item.result _ c.loop-row-test.true c.row-item.is c.timed_in.ensures c.in_ok-push_left.ensures.kept c.in_ok-push_left.ensures.left c.loop-row.invariant
