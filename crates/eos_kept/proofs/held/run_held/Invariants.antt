use Rattle.std.proofs.Common.{take}
use Rattle.eos_kept.specs.Held.{AreHeld}
use Rattle.eos_kept.proofs.held.run_held.Given as goal

abbrev pub invariant-loop-i : goal.invariant-loop-i
invariant-loop-i l = AreHeld (record { topics = l.asked.topics.now; wanted = l.asked.wanted; topic = l.partition.end.topic }) (take l.i l.segments) l.run
