use Rattle.std.proofs.Common.{◌≡◌, ◌-◌}
use Rattle.eos_base.specs.Records.{skipped}
use Rattle.eos_wire.specs.Reading.{many_from, tagged_from}
use Rattle.eos_wire.proofs.reading.skip_many_tagged.Given as goal

abbrev pub invariant-loop : goal.invariant-loop
invariant-loop l = skipped (many_from tagged_from (l.count - l.counter) l.rest) ≡ skipped (many_from tagged_from l.count l.fn.rest)
