use Rattle.std.proofs.Common.{◌≡◌, drop}
use Rattle.std.specs.List.{find}
use Rattle.eos_report.specs.Pages.{is_of_kind}
use Rattle.eos_report.proofs.page.first_of_kind.Given as goal

abbrev pub invariant-loop-fault : goal.invariant-loop-fault
invariant-loop-fault l = find (is_of_kind l.phase l.number) (drop l.fault-index l.faults) ≡ find (is_of_kind l.phase l.number) l.faults
