-- The numbers of a transactional id's states: KIP-98, "Transaction state", and Kafka's `TransactionState`.
use Rattle.std.specs.Prelude.{ℤ, pos, Bool, true, false, ◌||◌, List, [], ◌∷◌, find, Option, Some, None}
use Rattle.std.specs.Ordering.{int_eq}
use Rattle.eos_txnlog.specs.declared.status.Status.{Status}
use Rattle.eos_txnlog.specs.declared.status.Status.TheVariants as statuses

abbrev pub status_number : Status → ℤ
status_number statuses.Empty = pos 0
status_number statuses.Ongoing = pos 1
status_number statuses.PrepareCommit = pos 2
status_number statuses.PrepareAbort = pos 3
status_number statuses.CompleteCommit = pos 4
status_number statuses.CompleteAbort = pos 5
status_number statuses.Dead = pos 6
status_number statuses.PrepareEpochFence = pos 7

abbrev pub all_statuses : List Status
all_statuses = statuses.Empty ∷ statuses.Ongoing ∷ statuses.PrepareCommit ∷ statuses.PrepareAbort ∷ statuses.CompleteCommit ∷ statuses.CompleteAbort ∷ statuses.Dead ∷ statuses.PrepareEpochFence ∷ []

-- the status that has this number, if there is one
abbrev pub status_of : ℤ → Option Status
status_of number = find (λ status. int_eq (status_number status) number) all_statuses

abbrev pub same_status : Option Status → Option Status → Bool
same_status None None = true
same_status None (Some t) = false
same_status (Some s) None = false
same_status (Some s) (Some t) = int_eq (status_number s) (status_number t)

abbrev pub is_ongoing : Status → Bool
is_ongoing status = same_status (Some status) (Some statuses.Ongoing)

-- the record decides a transaction
abbrev pub is_prepare : Status → Bool
is_prepare status = same_status (Some status) (Some statuses.PrepareCommit) || same_status (Some status) (Some statuses.PrepareAbort)

-- the transaction goes on, or its end isn't written yet
abbrev pub is_open : Status → Bool
is_open status = is_ongoing status || is_prepare status
