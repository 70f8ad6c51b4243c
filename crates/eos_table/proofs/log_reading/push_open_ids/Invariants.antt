use Rattle.std.proofs.Common.{◌≡◌, take, fold}
use Rattle.std.specs.List.{flat_map}
use Rattle.eos_table.specs.TransactionLog.{state_of}
use Rattle.eos_table.specs.steps.LogCandidates.{taken, open_at}
use Rattle.eos_table.proofs.log_reading.push_open_ids.Given as goal

abbrev pub invariant-loop-mark : goal.invariant-loop-mark
invariant-loop-mark l = l.faults ≡ fold taken l.fn.faults (flat_map (open_at (state_of l.last) l.end.partition l.end.offset) (take l.mark-index l.marks))
