-- The names under which the faults of the internal logs' records are printed, and the numbers by which they are ordered.
use Rattle.std.specs.Prelude.{ℕ, List, codes}
use Rattle.eos_base.specs.declared.record_fault.RecordFault.{RecordFault}
use Rattle.eos_base.specs.declared.record_fault.RecordFault.TheVariants as faults

abbrev pub record_fault_name : RecordFault → List ℕ
record_fault_name faults.Short = codes "Short"
record_fault_name faults.Version = codes "Version"
record_fault_name faults.Status = codes "Status"
record_fault_name faults.Length = codes "Length"
record_fault_name faults.Trailing = codes "Trailing"
record_fault_name faults.OutOfMemory = codes "OutOfMemory"

abbrev pub record_number : RecordFault → ℕ
record_number faults.Short = 1
record_number faults.Version = 2
record_number faults.Status = 3
record_number faults.Length = 4
record_number faults.Trailing = 5
record_number faults.OutOfMemory = 6
