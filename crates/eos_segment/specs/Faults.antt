-- Why a command ends without an answer.
use Rattle.std.specs.Prelude.{ℕ, List, codes}
use Rattle.eos_evidence.specs.declared.fault.ReadFault.{ReadFault}
use Rattle.eos_evidence.specs.declared.fault.ReadFault.TheVariants as reading
use Rattle.eos_segment.specs.declared.fault.RunFault.{RunFault}
use Rattle.eos_segment.specs.declared.fault.RunFault.TheVariants as faults

abbrev pub name_of : RunFault → List ℕ
name_of faults.Read = codes "Read"
name_of faults.Limit = codes "Limit"
name_of faults.Write = codes "Write"
name_of faults.OutOfMemory = codes "OutOfMemory"

-- what a refusal of reading is for a command
abbrev pub run_fault_of : ReadFault → RunFault
run_fault_of reading.Read = faults.Read
run_fault_of reading.Limit = faults.Limit
run_fault_of reading.OutOfMemory = faults.OutOfMemory
