use Rattle.std.proofs.Common.{◌≡◌, ◌++◌, drop, string_bytes}
use Rattle.std.specs.List.{flat_map}
use Rattle.eos_report.specs.PageTables.{partition_row}
use Rattle.eos_report.proofs.page_tables.push_rows.Given as goal

abbrev pub invariant-loop-tally : goal.invariant-loop-tally
invariant-loop-tally l = string_bytes l.out ++ flat_map partition_row (drop l.tally-index l.tallies) ≡ string_bytes l.fn.out ++ flat_map partition_row l.tallies
