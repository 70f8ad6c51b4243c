use Rattle.std.proofs.Common.{◌≡◌, ◌++◌, drop, string_bytes}
use Rattle.std.specs.List.{flat_map}
use Rattle.eos_report.specs.Lines.{fault_json_line}
use Rattle.eos_report.proofs.line.push_json_lines.Given as goal

abbrev pub invariant-loop-fault : goal.invariant-loop-fault
invariant-loop-fault l = string_bytes l.out ++ flat_map (fault_json_line l.about) (drop l.fault-index l.faults) ≡ string_bytes l.fn.out ++ flat_map (fault_json_line l.about) l.faults
