use Rattle.std.proofs.Common.{◌≡◌, ◌-◌}
use Rattle.eos_base.specs.Records.{skipped}
use Rattle.eos_wire.specs.Reading.{many_from}
use Rattle.eos_txnlog.specs.Reading.{number_from}
use Rattle.eos_txnlog.proofs.field.skip_many_numbers.Given as goal

abbrev pub invariant-loop : goal.invariant-loop
invariant-loop l = skipped (many_from number_from (l.count - l.counter) l.rest) ≡ skipped (many_from number_from l.count l.fn.rest)
