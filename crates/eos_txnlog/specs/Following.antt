-- Which record of a transactional id may follow which: Kafka's `TransactionState` (the valid previous states), as KIP-890
-- leaves it, where the end of a transaction raises the producer epoch. `None` is no record before, or a tombstone.
use Rattle.std.specs.Prelude.{int_le, Bool, not, ◌&&◌, ◌||◌, List, [], ◌∷◌, Option, Some, None, option_map, Result, Ok, Err, if◌then◌else◌}
use Rattle.std.specs.List.{list_any}
use Rattle.std.specs.Ordering.{int_eq}
use Rattle.eos_txnlog.specs.declared.status.Status.{Status}
use Rattle.eos_txnlog.specs.declared.status.Status.TheVariants.{Empty, Ongoing, PrepareCommit, PrepareAbort, CompleteCommit, CompleteAbort, Dead, PrepareEpochFence}
use Rattle.eos_txnlog.specs.declared.value.TxnValue.{TxnValue}
use Rattle.eos_txnlog.specs.declared.step.TxnFault.{TxnFault}
use Rattle.eos_txnlog.specs.declared.step.TxnFault.TheVariants as faults
use Rattle.eos_txnlog.specs.Status.{same_status, is_ongoing, is_prepare}

-- ---- the table

-- what may follow the end of a transaction, or a transactional id that has had none
abbrev pub after_end : List (Option Status)
after_end = Some Empty ∷ Some Ongoing ∷ Some PrepareAbort ∷ None ∷ []

-- the statuses that may follow a status
abbrev pub next_statuses : Option Status → List (Option Status)
next_statuses None = Some Empty ∷ []
next_statuses (Some Empty) = after_end
next_statuses (Some Ongoing) = Some Ongoing ∷ Some PrepareCommit ∷ Some PrepareAbort ∷ []
next_statuses (Some PrepareCommit) = Some CompleteCommit ∷ []
next_statuses (Some PrepareAbort) = Some CompleteAbort ∷ []
next_statuses (Some CompleteCommit) = after_end
next_statuses (Some CompleteAbort) = after_end
next_statuses (Some Dead) = []
next_statuses (Some PrepareEpochFence) = []

-- ---- the three refusals

abbrev pub status_in : Option TxnValue → Option Status
status_in value = option_map (λ v. v.status) value

-- the pair is in the table
abbrev pub is_in_order : Option TxnValue → Option TxnValue → Bool
is_in_order before after = list_any (same_status (status_in after)) (next_statuses (status_in before))

-- a transaction goes on under another producer id or epoch, or is decided under another producer id
abbrev pub changes_producer : TxnValue → TxnValue → Bool
changes_producer before after =
    is_ongoing before.status && is_ongoing after.status && not (int_eq after.producer before.producer && int_eq after.epoch before.epoch)
    || is_prepare after.status && not (int_eq after.producer before.producer)

-- a transaction is decided without an epoch of its own
abbrev pub keeps_epoch : TxnValue → TxnValue → Bool
keeps_epoch before after = is_prepare after.status && int_le after.epoch before.epoch

abbrev pub StepResult : Type 0
StepResult = Result (Unit {0}) TxnFault

-- the first refusal that stands between two values
abbrev pub value_verdict : TxnValue → TxnValue → StepResult
value_verdict before after =
    if changes_producer before after then Err faults.Producer else if keeps_epoch before after then Err faults.Epoch else Ok tt

-- a tombstone, or the first record, has nothing to be compared with
abbrev pub pair_verdict : Option TxnValue → Option TxnValue → StepResult
pair_verdict (Some before) (Some after) = value_verdict before after
pair_verdict None after = Ok tt
pair_verdict (Some before) None = Ok tt

-- whether the record after may follow the record before
abbrev pub step_verdict : Option TxnValue → Option TxnValue → StepResult
step_verdict before after = if is_in_order before after then pair_verdict before after else Err faults.Order
