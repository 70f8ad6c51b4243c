use Rattle.std.proofs.Common.{◌+◌}
use Rattle.eos_simulate.proofs.ShrunkParts.{line_passed}
use Rattle.eos_simulate.proofs.cutting.lines_left.Goals as goal

pub loop-place-preserved : goal.loop-place-preserved
loop-place-preserved c =
    line_passed c.loop-place.lines c.add_line.new.lines c.args.deeds.now c.loop-place.place (c.loop-place.place + 1) c.in_ok-left.left c.index-deeds-place.result c.loop-place-test.true c.index-deeds-place.is
    c.in_ok-left.ensures c.in_ok-add_line.ensures c.loop-place.invariant
