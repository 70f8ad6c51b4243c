use Rattle.std.proofs.Common.{drop}
use Rattle.std.specs.List.{flat_map}
use Rattle.eos_table.specs.TransactionLog.{transaction_parts, all_steps}
use Rattle.eos_table.specs.steps.LogCandidates.{after, unread, none_found, part_faults}
use Rattle.eos_table.specs.steps.Held.{readout}
use Rattle.eos_table.proofs.LogSteps.{Leaves}
use Rattle.eos_table.proofs.log_reading.read_log.Given as goal

-- what is left to read
abbrev pub invariant-loop-part : goal.invariant-loop-part
invariant-loop-part l = Leaves l.fn.holding (readout l.reading) (transaction_parts (drop l.part-index l.parts))
    (after (unread (none_found l.fn.keeps_all)) (all_steps (transaction_parts l.parts)) (flat_map part_faults (transaction_parts l.parts)))
