use Rattle.std.proofs.Common.{◌≡◌, ◌≤◌, take}
use Rattle.eos_manifest.specs.Coordinators.{count_of}
use Rattle.eos_manifest.proofs.coordinator.count_of.Given as goal

abbrev pub invariant-loop-end : goal.invariant-loop-end
invariant-loop-end l = (l.count ≡ count_of (take l.end-index l.ends) l.topic) × (l.count ≤ l.end-index)
