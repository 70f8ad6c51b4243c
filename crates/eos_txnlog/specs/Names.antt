-- The names under which faults are printed.
use Rattle.std.specs.Prelude.{ℕ, List, codes}
use Rattle.eos_txnlog.specs.declared.step.TxnFault.{TxnFault}
use Rattle.eos_txnlog.specs.declared.step.TxnFault.TheVariants as step_faults

abbrev pub step_fault_name : TxnFault → List ℕ
step_fault_name step_faults.Order = codes "Order"
step_fault_name step_faults.Producer = codes "Producer"
step_fault_name step_faults.Epoch = codes "Epoch"
