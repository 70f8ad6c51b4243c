use Rattle.std.proofs.Common.{◌≡◌, ℕ, ◌<◌, false}
use Rattle.eos_machine.specs.World.{coord_at}
use Rattle.eos_machine.specs.Tests.{is_ongoing, is_prepare}
use Rattle.eos_broker.proofs.store.Store.at_rest.Given as goal

abbrev pub invariant-loop-application : goal.invariant-loop-application
invariant-loop-application l = (a : ℕ) → a < l.application → (is_ongoing (coord_at l.self.world a).status ≡ false) × (is_prepare (coord_at l.self.world a).status ≡ false)
