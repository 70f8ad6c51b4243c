-- What a manifest that isn't read, or isn't one, is refused by.
use Rattle.eos_evidence.specs.declared.fault.SpecFault.TheVariants as faults
