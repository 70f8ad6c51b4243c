use Rattle.std.proofs.Common.{◌≡◌, ◌≤◌, take, length}
use Rattle.std.specs.List.{filter}
use Rattle.eos_report.specs.Pages.{is_of_kind}
use Rattle.eos_report.proofs.page.count_of_kind.Given as goal

abbrev pub invariant-loop-fault : goal.invariant-loop-fault
invariant-loop-fault l = (l.count ≤ l.fault-index) × (l.count ≡ length (filter (is_of_kind l.phase l.number) (take l.fault-index l.faults)))
