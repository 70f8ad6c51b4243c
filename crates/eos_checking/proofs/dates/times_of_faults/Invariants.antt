use Rattle.std.proofs.Common.{take}
use Rattle.eos_source.specs.Said.{known_by}
use Rattle.eos_checking.specs.Dates.{AreTimesOfFaults}
use Rattle.eos_checking.proofs.dates.times_of_faults.Given as goal

abbrev pub invariant-loop-fault : goal.invariant-loop-fault
invariant-loop-fault g l = AreTimesOfFaults (known_by (g.S.Source.said l.pieces.source.now) (g.S.Source.is_log l.pieces.source.now)) l.pieces.shape.now.partitions (take l.fault-index l.faults) l.times.items
