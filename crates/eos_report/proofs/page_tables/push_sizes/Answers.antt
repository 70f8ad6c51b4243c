use Rattle.eos_report.specs.PageTables.{sizes_cells}
use Rattle.eos_report.proofs.LastCalls.{last}
use Rattle.eos_report.proofs.page_tables.push_sizes.Goals as goal

pub returns : goal.returns
unfolding sizes_cells
returns c = last _ _ _ c.in_ok-push_count.ensures (last _ _ _ c.in_ok-push_count-2.ensures (last _ _ _ c.in_ok-push_visible.ensures (last _ _ _ c.in_ok-push_count-3.ensures c.push_count-4.ensures)))
