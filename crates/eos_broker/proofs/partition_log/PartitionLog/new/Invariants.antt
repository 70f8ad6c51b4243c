use Rattle.std.proofs.Common.{◌≡◌, replicate}
use Rattle.eos_machine.specs.Logs.{unseen}
use Rattle.eos_broker.proofs.partition_log.PartitionLog.new.Given as goal

abbrev pub invariant-loop : goal.invariant-loop
invariant-loop l = l.producers.items ≡ replicate l.counter unseen
