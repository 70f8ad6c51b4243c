-- What is kept of the decisions of a producer id and data epoch: how the first of them ends, and whether there is another.
use Rattle.std.specs.Prelude.{◌≡◌, ℕ, ℤ, true, false, Option, Some, None, List, [], ◌∷◌}
use Rattle.std.specs.BTreeMap.{BTreeMap, get}
use Rattle.std.specs.List.{filter}
use Rattle.eos_txnlog.specs.declared.decision.Decision.{Decision}
use Rattle.eos_table.specs.MatchFaults.{deciders}
use Rattle.eos_table.specs.steps.Keys.{mine, pair_cmp}
use Rattle.eos_table.specs.declared.decided.Decided.{Decided}

abbrev pub with_decision : Option Decided → Decision → Decided
with_decision None d = record { marker_epoch = d.marker_epoch; kind = d.kind; is_twice = false }
with_decision (Some known) d = record { marker_epoch = known.marker_epoch; kind = known.kind; is_twice = true }

abbrev pub kept_of : List Decision → Option Decided
kept_of [] = None
kept_of (d ∷ []) = Some (record { marker_epoch = d.marker_epoch; kind = d.kind; is_twice = false })
kept_of (d ∷ e ∷ ds) = Some (record { marker_epoch = d.marker_epoch; kind = d.kind; is_twice = true })

-- the table of these decisions, by producer id and data epoch
abbrev pub AreDeciders : BTreeMap (ℤ × ℤ) Decided → List Decision → Type 0
AreDeciders kept ds = (producer epoch : ℤ) → get pair_cmp kept (producer, epoch) ≡ kept_of (deciders ds producer epoch)

-- the decisions of a shard
abbrev pub decided_in : ℕ → ℕ → List Decision → List Decision
decided_in n s ds = filter (λ (d : Decision). mine n s d.producer) ds
