use Rattle.std.proofs.Common.{◌≡◌, ◌++◌, drop, string_bytes}
use Rattle.std.specs.List.{flat_map}
use Rattle.eos_report.specs.FaultLists.{fault_line}
use Rattle.eos_report.proofs.listing.push_lines.Given as goal

abbrev pub invariant-loop-fault : goal.invariant-loop-fault
invariant-loop-fault l = string_bytes l.out ++ flat_map (fault_line l.about) (drop l.fault-index l.faults) ≡ string_bytes l.fn.out ++ flat_map (fault_line l.about) l.faults
