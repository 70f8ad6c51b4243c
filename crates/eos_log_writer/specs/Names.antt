-- The names under which refusals are printed.
use Rattle.std.specs.Prelude.{ℕ, List, codes}
use Rattle.eos_log_writer.specs.declared.segments.LogFault.{LogFault}
use Rattle.eos_log_writer.specs.declared.segments.LogFault.TheVariants as faults

abbrev pub log_fault_name : LogFault → List ℕ
log_fault_name faults.Refused = codes "Refused"
log_fault_name faults.OutOfMemory = codes "OutOfMemory"
