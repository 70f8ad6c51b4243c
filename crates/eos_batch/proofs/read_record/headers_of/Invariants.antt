use Rattle.std.proofs.Common.{◌≡◌, ◌-◌}
use Rattle.eos_batch.specs.Reading.{headers_at}
use Rattle.eos_batch.proofs.ReadLoops.{with_front}
use Rattle.eos_batch.proofs.read_record.headers_of.Given as goal

abbrev pub invariant-loop : goal.invariant-loop
invariant-loop l = with_front l.headers.items (headers_at (l.count - l.counter) l.rest) ≡ headers_at l.count l.fn.rest
