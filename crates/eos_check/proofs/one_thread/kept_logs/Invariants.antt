use Rattle.std.proofs.Common.{take}
use Rattle.eos_check.specs.KeptLogs.{AreKeptOf}
use Rattle.eos_check.proofs.one_thread.kept_logs.Given as goal

abbrev pub invariant-loop-i : goal.invariant-loop-i
invariant-loop-i l = AreKeptOf l.evidence.spec.apps (take l.i l.partitions) l.parts.items l.faults.items
