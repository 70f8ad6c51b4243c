-- The batches so far stand behind those before, and what is left of the file has the others.
use Rattle.std.proofs.Common.{◌≤◌, ◌-◌, ◌++◌, drop, length}
use Rattle.eos_simulate.specs.Cleaning.{logged_in}
use Rattle.eos_simulate.proofs.CleanedLogs.{GoesOnBy}
use Rattle.eos_simulate.proofs.cleaning.push_batches.Given as goal

abbrev pub invariant-loop : goal.invariant-loop
invariant-loop l = record {
  inside : l.at ≤ length l.file.bytes;
  so_far : GoesOnBy l.file.base (l.end - l.counter) (drop l.at l.file.bytes) l.log.items (l.fn.log.items ++ logged_in (length l.file.bytes) l.file.base l.file.bytes);
}
