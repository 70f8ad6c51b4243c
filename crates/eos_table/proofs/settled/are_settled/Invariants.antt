use Rattle.std.proofs.Common.{◌≡◌, Some, Option}
use Rattle.eos_txnlog.specs.declared.value.TxnValue.{TxnValue}
use Rattle.eos_table.specs.TransactionLog.{Id, state_of}
use Rattle.eos_table.proofs.SettledIds.{IsPast}
use Rattle.eos_table.proofs.settled.are_settled.Given as goal

abbrev pub invariant-loop-value : goal.invariant-loop-value
invariant-loop-value l = (id : Id) (v : Option TxnValue) → state_of l.last id ≡ Some v → IsPast l.rest id v
