use Rattle.std.proofs.Common.{◌≡◌, map}
use Rattle.std.specs.List.{range_with_len}
use Rattle.eos_machine.specs.Evidences.{end_of}
use Rattle.eos_cluster.proofs.evidence.ends.Given as goal

abbrev pub invariant-loop-place : goal.invariant-loop-place
invariant-loop-place l = l.ends.items ≡ map (end_of l.store.config l.store.world) (range_with_len 0 l.place)
