use Rattle.std.proofs.Common.{sym}
use Rattle.eos_disk.proofs.WrittenMore.{next_segment}
use Rattle.eos_disk.proofs.writing.write_segments.Goals as goal

pub loop-segment-preserved : goal.loop-segment-preserved
loop-segment-preserved g c =
    next_segment (g.D.Disk.holds c.args.disk.now) (g.D.Disk.holds c.loop-segment.disk) (g.D.Disk.holds c.write_segment.new.disk) c.args.folder.now c.args.segments.now c.loop-segment.segment-index
    c.segment-item.result c.segment-item.result c.loop-segment-test.true (sym c.segment-item.is) c.loop-segment.invariant c.in_ok-write_segment.ensures
