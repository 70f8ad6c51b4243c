-- The files that are left lead where all lead.
use Rattle.eos_machine.specs.Evidences.{adding}
use Rattle.eos_simulate.proofs.Brought.{AddsOn}
use Rattle.eos_simulate.proofs.collecting.add_files.Given as goal

abbrev pub invariant-loop-file : goal.invariant-loop-file
invariant-loop-file l = AddsOn l.files (adding l.fn.builder l.files) l.file-index l.builder
