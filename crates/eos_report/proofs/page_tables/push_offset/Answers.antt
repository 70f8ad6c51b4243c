use Rattle.eos_report.specs.PageTables.{offset_cell}
use Rattle.eos_report.proofs.LastCalls.{last}
use Rattle.eos_report.proofs.page_tables.push_offset.Goals as goal

pub returns : goal.returns
unfolding offset_cell
returns c = last _ _ _ c.in_ok-push_value.ensures c.push_text.ensures
