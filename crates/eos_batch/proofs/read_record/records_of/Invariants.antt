use Rattle.std.proofs.Common.{◌≡◌, ◌-◌}
use Rattle.eos_batch.specs.Reading.{records_at}
use Rattle.eos_batch.proofs.ReadLoops.{with_front}
use Rattle.eos_batch.proofs.read_record.records_of.Given as goal

abbrev pub invariant-loop-place : goal.invariant-loop-place
invariant-loop-place l = with_front l.records.items (records_at (l.count - l.place) l.place l.rest) ≡ records_at l.count 0 l.fn.rest
