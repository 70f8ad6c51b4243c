use Rattle.std.proofs.Common.{◌≡◌, take, map, string_bytes}
use Rattle.eos_manifest.specs.Coordinators.{coordinator_lines}
use Rattle.eos_manifest.proofs.coordinator.coordinator_lines.Given as goal

abbrev pub invariant-loop-name : goal.invariant-loop-name
invariant-loop-name l = string_bytes l.text ≡ coordinator_lines l.fn.partitions (map (λ n. n.now) (take l.name-index l.names))
