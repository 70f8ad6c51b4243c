-- A fault that is no want of memory.
use Rattle.std.specs.Prelude.{◌≢◌}
use Rattle.eos_batch.specs.declared.fault.BatchFault.{BatchFault}
use Rattle.eos_batch.specs.declared.fault.BatchFault.TheVariants.{OutOfMemory}

abbrev pub IsReal : BatchFault → Type 0
IsReal fault = fault ≢ OutOfMemory
