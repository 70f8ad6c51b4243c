use Rattle.std.proofs.Common.{◌≡◌, ◌++◌, drop, string_bytes}
use Rattle.std.specs.List.{flat_map}
use Rattle.eos_report.specs.Pages.{phase_rows}
use Rattle.eos_report.proofs.page.push_phases.Given as goal

abbrev pub invariant-loop-phase : goal.invariant-loop-phase
invariant-loop-phase l = string_bytes l.out ++ flat_map (phase_rows l.faults) (drop l.phase-index l.phases) ≡ string_bytes l.fn.out ++ flat_map (phase_rows l.faults) l.phases
