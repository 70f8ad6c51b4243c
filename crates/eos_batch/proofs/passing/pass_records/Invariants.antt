use Rattle.std.proofs.Common.{◌≡◌, ◌≤◌, ◌-◌, List, slice_range}
use Rattle.eos_batch.specs.declared.record.Record.{Record}
use Rattle.eos_batch.specs.Reading.{records_at}
use Rattle.eos_batch.proofs.ReadLoops.{with_front}
use Rattle.eos_batch.proofs.passing.pass_records.Given as goal

abbrev pub invariant-loop-place : goal.invariant-loop-place
invariant-loop-place l = record {
  within : l.from ≤ l.end;
  walked : (rs : List Record) × (with_front rs (records_at (l.count - l.place) l.place (slice_range l.bytes l.from l.end)) ≡ records_at l.count 0 (slice_range l.bytes l.begin l.end));
}
