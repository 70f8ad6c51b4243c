use Rattle.std.proofs.Common.{◌≡◌, take}
use Rattle.eos_machine.specs.World.{without_odd_outputs}
use Rattle.eos_broker.proofs.copies.without_odd_outputs.Given as goal

abbrev pub invariant-loop-place : goal.invariant-loop-place
invariant-loop-place l = l.others.items ≡ without_odd_outputs l.config (take l.place-index l.places)
