use Rattle.std.proofs.Common.{◌≡◌, ◌++◌, drop, string_bytes}
use Rattle.std.specs.List.{flat_map}
use Rattle.eos_report.specs.PageTables.{group_rows}
use Rattle.eos_report.proofs.page_tables.push_listed.Given as goal

abbrev pub invariant-loop-group : goal.invariant-loop-group
invariant-loop-group l = string_bytes l.out ++ flat_map group_rows (drop l.group-index l.groups) ≡ string_bytes l.fn.out ++ flat_map group_rows l.groups
