use Rattle.std.proofs.Common.{◌≡◌, ℕ, ◌-◌, ◌<◌}
use Rattle.std.specs.List.{flat_map, range_with_len}
use Rattle.eos_machine.specs.LogIndexes.{log_count}
use Rattle.eos_machine.specs.World.{log_at}
use Rattle.eos_machine.specs.Evidences.{log_segments, cluster_segments, adding, HaveTexts}
use Rattle.eos_cluster.proofs.evidence.add_logs.Given as goal

abbrev pub invariant-loop-place : goal.invariant-loop-place
invariant-loop-place l =
    (adding l.fn.builder (cluster_segments l.store.config l.store.world)
    ≡ adding l.builder (flat_map (λ p. log_segments l.store.config p l.store.world.elections (log_at l.store.world p)) (range_with_len l.place (log_count l.store.config - l.place))))
    × ((p : ℕ) → p < l.place → HaveTexts l.store.config p l.store.world.elections (log_at l.store.world p))
