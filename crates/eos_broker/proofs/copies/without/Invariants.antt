use Rattle.std.proofs.Common.{◌≡◌, take}
use Rattle.eos_machine.specs.Deliveries.{without}
use Rattle.eos_broker.proofs.copies.without.Given as goal

abbrev pub invariant-loop-other : goal.invariant-loop-other
invariant-loop-other l = l.others.items ≡ without l.place (take l.other-index l.places)
