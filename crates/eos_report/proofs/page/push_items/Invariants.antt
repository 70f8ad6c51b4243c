use Rattle.std.proofs.Common.{◌≡◌, ◌++◌, drop, string_bytes}
use Rattle.std.specs.List.{flat_map}
use Rattle.eos_report.specs.Pages.{fault_item}
use Rattle.eos_report.proofs.page.push_items.Given as goal

abbrev pub invariant-loop-fault : goal.invariant-loop-fault
invariant-loop-fault l = string_bytes l.out ++ flat_map fault_item (drop l.fault-index l.faults) ≡ string_bytes l.fn.out ++ flat_map fault_item l.faults
