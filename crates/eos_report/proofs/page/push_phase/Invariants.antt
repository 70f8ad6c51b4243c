use Rattle.std.proofs.Common.{◌≡◌, ◌++◌, drop, string_bytes}
use Rattle.std.specs.List.{flat_map}
use Rattle.eos_report.specs.Pages.{number_row}
use Rattle.eos_report.proofs.page.push_phase.Given as goal

abbrev pub invariant-loop-number : goal.invariant-loop-number
invariant-loop-number l = string_bytes l.out ++ flat_map (number_row l.faults l.phase) (drop l.number-index l.numbers) ≡ string_bytes l.fn.out ++ flat_map (number_row l.faults l.phase) l.numbers
