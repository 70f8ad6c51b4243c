-- The segments so far are written.
use Rattle.std.proofs.Common.{take}
use Rattle.eos_disk.specs.Writing.{SegmentsWritten}
use Rattle.eos_disk.proofs.writing.write_segments.Given as goal

abbrev pub invariant-loop-segment : goal.invariant-loop-segment
invariant-loop-segment g l = SegmentsWritten (g.D.Disk.holds l.fn.disk) l.folder (take l.segment-index l.segments) (g.D.Disk.holds l.disk)
