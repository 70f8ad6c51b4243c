-- The names under which refusals are printed.
use Rattle.std.specs.Prelude.{ℕ, List, codes}
use Rattle.eos_evidence.specs.declared.fault.AddFault.{AddFault}
use Rattle.eos_evidence.specs.declared.fault.AddFault.TheVariants as add
use Rattle.eos_evidence.specs.declared.fault.SpecFault.{SpecFault}
use Rattle.eos_evidence.specs.declared.fault.SpecFault.TheVariants as faults
use Rattle.eos_evidence.specs.declared.fault.ReadFault.{ReadFault}
use Rattle.eos_evidence.specs.declared.fault.ReadFault.TheVariants as reading

abbrev pub read_fault_name : ReadFault → List ℕ
read_fault_name reading.Read = codes "Read"
read_fault_name reading.Limit = codes "Limit"
read_fault_name reading.OutOfMemory = codes "OutOfMemory"

abbrev pub spec_fault_name : SpecFault → List ℕ
spec_fault_name faults.Json = codes "Json"
spec_fault_name faults.Field = codes "Field"
spec_fault_name faults.Version = codes "Version"
spec_fault_name faults.Limit = codes "Limit"
spec_fault_name faults.OutOfMemory = codes "OutOfMemory"

abbrev pub add_fault_name : AddFault → List ℕ
add_fault_name add.Name = codes "Name"
add_fault_name add.Limit = codes "Limit"
add_fault_name add.Duplicate = codes "Duplicate"
add_fault_name add.OutOfMemory = codes "OutOfMemory"
