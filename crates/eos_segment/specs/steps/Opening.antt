-- Why a file that wasn't opened isn't answered about.
use Rattle.std.specs.Prelude.{⊤}
use Rattle.eos_segment.specs.declared.fault.RunFault.{RunFault}
use Rattle.eos_segment.specs.declared.fault.RunFault.TheVariants as faults

abbrev pub IsUnopened : RunFault → Type 0
IsUnopened faults.Read = ⊤
IsUnopened faults.Limit = ⊥
IsUnopened faults.Write = ⊥
IsUnopened faults.OutOfMemory = ⊤
