-- Why a verdict was not written.
use Rattle.std.specs.Prelude.{ℕ, List, codes}
use Rattle.eos_report.specs.declared.fault.ReportFault.{ReportFault}
use Rattle.eos_report.specs.declared.fault.ReportFault.TheVariants as faults

abbrev pub name_of : ReportFault → List ℕ
name_of faults.Write = codes "Write"
name_of faults.OutOfMemory = codes "OutOfMemory"
