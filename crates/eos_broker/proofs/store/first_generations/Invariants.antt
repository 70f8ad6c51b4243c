use Rattle.std.proofs.Common.{◌≡◌, replicate}
use Rattle.eos_broker.proofs.store.first_generations.Given as goal

abbrev pub invariant-loop : goal.invariant-loop
invariant-loop l = l.generations.items ≡ replicate l.counter 0
