use Rattle.std.proofs.Common.{◌≡◌, ℕ, ◌<◌, None, slice_index_or}
use Rattle.eos_machine.specs.LogIndexes.{offsets_index}
use Rattle.eos_machine.specs.Logs.{producer_at}
use Rattle.eos_cluster.proofs.fetches.is_settled.Given as goal

abbrev pub invariant-loop-application : goal.invariant-loop-application
invariant-loop-application l = (a : ℕ) → a < l.application → slice_index_or l.ends a None ≡ None → (producer_at l.store.world a offsets_index).last ≡ None
