-- The faults among the producer ids of a shard: those whose remainder by the number of shards is the shard's.
use Rattle.std.specs.Prelude.{◌≡◌, ◌<◌, ℕ, pos, List, Option}
use Rattle.std.specs.Int.{int_rem_euclid}
use Rattle.eos_base.specs.Least.{IsLeastOrNone}
use Rattle.eos_txnlog.specs.declared.decision.Decision.{Decision}
use Rattle.eos_fold.specs.Parts.{PartLog}
use Rattle.eos_verdict.specs.declared.match_fault.MatchFault.{MatchFault}
use Rattle.eos_table.specs.MatchFaults.{fault_cmp, Stands}

abbrev pub InShard : ℕ → ℕ → MatchFault → Type 0
InShard shards shard fault = int_rem_euclid fault.producer (pos shards) ≡ pos shard

abbrev pub StandsIn : List Decision → List PartLog → ℕ → ℕ → MatchFault → Type 0
StandsIn decisions parts shards shard fault = InShard shards shard fault × Stands decisions parts fault

-- the least fault of the shard, or none stands in it
abbrev pub IsAnswer : List Decision → List PartLog → ℕ → ℕ → Option MatchFault → Type 0
IsAnswer decisions parts shards shard found = IsLeastOrNone fault_cmp (StandsIn decisions parts shards shard) found

-- one answer for each shard
abbrev pub AreAnswers : List Decision → List PartLog → ℕ → (ℕ → Option MatchFault) → Type 0
AreAnswers decisions parts shards answers = (shard : ℕ) → shard < shards → IsAnswer decisions parts shards shard (answers shard)
