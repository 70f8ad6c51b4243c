use Rattle.std.proofs.Common.{arith}
use Rattle.std.specs.Option.{option_copied}
use Rattle.eos_picture.specs.Window.{named_by}
use Rattle.eos_picture.proofs.Standings.{near_here, seen_here}
use Rattle.eos_picture.proofs.chosen.nearest_of.Goals as goal

pub loop-i-preserved : goal.loop-i-preserved
loop-i-preserved c =
    let logs = c.args.logs.now in
    let name = named_by (option_copied c.args.fault) in
    let near = c.nearness-near.result in
    record {
      near = near_here logs name c.args.column.now c.loop-i.i _ c.index-logs-i.result near c.loop-i.most c.loop-i-test.true c.index-logs-i.is c.nearness-near.ensures (omega (arith, c.if-near-most.false));
      seen = seen_here logs name c.args.column.now c.loop-i.i _ c.index-logs-i.result near c.loop-i.most near c.loop-i-test.true c.index-logs-i.is c.nearness-near.ensures
          (omega (arith, c.if-near-most.false)) (omega arith) c.loop-i.invariant.seen;
    }
