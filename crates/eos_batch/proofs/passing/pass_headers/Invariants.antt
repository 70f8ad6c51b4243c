use Rattle.std.proofs.Common.{◌≡◌, ◌-◌, List}
use Rattle.eos_batch.specs.declared.record.Header.{Header}
use Rattle.eos_batch.specs.Reading.{headers_at}
use Rattle.eos_batch.proofs.ReadLoops.{with_front}
use Rattle.eos_batch.proofs.passing.pass_headers.Given as goal

abbrev pub invariant-loop : goal.invariant-loop
invariant-loop l = (front : List Header) × (with_front front (headers_at (l.count - l.counter) l.rest) ≡ headers_at l.count l.fn.rest)
