use Rattle.std.proofs.Common.{◌≡◌, ◌++◌, drop, string_bytes}
use Rattle.std.specs.List.{flat_map}
use Rattle.eos_report.specs.PageTables.{source_row}
use Rattle.eos_report.proofs.page_tables.push_sources.Given as goal

abbrev pub invariant-loop-source : goal.invariant-loop-source
invariant-loop-source l = string_bytes l.out ++ flat_map (source_row l.group) (drop l.source-index l.sources) ≡ string_bytes l.fn.out ++ flat_map (source_row l.group) l.sources
