use Rattle.std.proofs.Common.{◌≡◌, List, ℕ, drop, false}
use Rattle.eos_batch.specs.declared.batch.Batch.{Batch}
use Rattle.eos_reading.specs.Heads.{HasHeads}
use Rattle.eos_source_check.proofs.TimedBytes.{IsTimingTo}
use Rattle.eos_source_check.proofs.timing.pass_heads.Given as goal

abbrev pub invariant-loop-head : goal.invariant-loop-head
invariant-loop-head l = (batches : List Batch) (rest : List ℕ) → l.initial.timing.is_ended ≡ false → HasHeads l.buffer batches l.heads rest
    → IsTimingTo l.buffer l.offsets rest (drop l.head-index l.heads) l.initial.timing l.timing l.at
