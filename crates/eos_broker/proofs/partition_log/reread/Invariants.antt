use Rattle.std.proofs.Common.{◌≡◌, ℕ, ◌<◌, slice_index_or, take, vec_len}
use Rattle.eos_machine.specs.Logs.{unseen}
use Rattle.eos_broker.specs.Kept.{AreKept}
use Rattle.eos_broker.proofs.partition_log.reread.Given as goal

abbrev pub invariant-loop-i : goal.invariant-loop-i
invariant-loop-i l = (vec_len l.producers ≡ vec_len l.fn.producers) × ((a : ℕ) → a < l.i → slice_index_or l.producers.items a unseen ≡ unseen)

abbrev pub invariant-loop-item : goal.invariant-loop-item
invariant-loop-item l = (vec_len l.producers ≡ vec_len l.fn.producers) × AreKept l.producers.items (take l.item-index l.items)
