use Rattle.std.proofs.Common.{◌≡◌, replicate}
use Rattle.eos_machine.specs.World.{fresh}
use Rattle.eos_broker.proofs.store.Store.new.Given as goal

abbrev pub invariant-loop : goal.invariant-loop
invariant-loop l = l.coordinators.items ≡ replicate l.counter fresh
