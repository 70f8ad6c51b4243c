use Rattle.std.proofs.Common.{◌≡◌, ◌++◌, drop, None}
use Rattle.eos_reading.specs.Epochs.{epoch_behind}
use Rattle.eos_reading.specs.Seals.{entries_of}
use Rattle.eos_reading.proofs.seals.push_entries.Given as goal

abbrev pub invariant-loop-seal : goal.invariant-loop-seal
invariant-loop-seal l = l.entries.items ++ entries_of l.last (drop l.seal-index l.seals) ≡ l.fn.entries.items ++ entries_of (epoch_behind None l.fn.entries.items) l.seals
