-- How partitions and states of a transactional id are printed: a topic, a hyphen and a number, as Kafka's log directories are
-- named, and the states as Kafka's `TransactionState` names them.
use Rattle.std.specs.Prelude.{ℕ, Bool, true, false, List, [], ◌∷◌, ◌++◌, codes}
use Rattle.eos_base.specs.declared.partition_name.PartitionName.{PartitionName}
use Rattle.eos_txnlog.specs.declared.status.Status.{Status}
use Rattle.eos_txnlog.specs.declared.status.Status.TheVariants as statuses
use Rattle.eos_verdict.specs.FaultTexts.{name_text}

-- what stands before the first name, and before each other one
abbrev pub separator : Bool → List ℕ
separator true = []
separator false = codes ","

-- names, with commas between them; the flag says that none stands before these
abbrev pub names_text : Bool → List PartitionName → List ℕ
names_text is_first [] = []
names_text is_first (n ∷ ns) = (separator is_first ++ name_text n.topic n.partition) ++ names_text false ns

abbrev pub status_name : Status → List ℕ
status_name statuses.Empty = codes "Empty"
status_name statuses.Ongoing = codes "Ongoing"
status_name statuses.PrepareCommit = codes "PrepareCommit"
status_name statuses.PrepareAbort = codes "PrepareAbort"
status_name statuses.CompleteCommit = codes "CompleteCommit"
status_name statuses.CompleteAbort = codes "CompleteAbort"
status_name statuses.Dead = codes "Dead"
status_name statuses.PrepareEpochFence = codes "PrepareEpochFence"
