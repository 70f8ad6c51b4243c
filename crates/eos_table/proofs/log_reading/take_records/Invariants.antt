use Rattle.std.proofs.Common.{◌≡◌, length}
use Rattle.eos_table.specs.TransactionLog.{steps_after, state_after, state_of}
use Rattle.eos_table.specs.steps.LogCandidates.{faults_after}
use Rattle.eos_table.specs.steps.Held.{Readout, readout, Takes}
use Rattle.eos_table.proofs.log_reading.take_records.Given as goal

-- what is left to read
abbrev pub invariant-loop-item : goal.invariant-loop-item
invariant-loop-item l = record {
  read : (all : Readout) → Takes (readout l.reading) all (steps_after (state_of l.last) l.part.number l.items) (faults_after (state_of l.last) l.part.number l.items)
      → Takes (readout l.fn.reading) all (steps_after (state_of l.fn.last) l.part.number l.part.items) (faults_after (state_of l.fn.last) l.part.number l.part.items);
  last : state_after (state_of l.last) l.items ≡ state_after (state_of l.fn.last) l.part.items;
}

abbrev pub decreases-loop-item : goal.decreases-loop-item
decreases-loop-item l = length l.items
