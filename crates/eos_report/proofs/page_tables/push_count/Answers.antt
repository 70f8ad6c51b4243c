use Rattle.eos_report.specs.PageTables.{count_cell}
use Rattle.eos_report.proofs.LastCalls.{last}
use Rattle.eos_report.proofs.page_tables.push_count.Goals as goal

pub returns : goal.returns
unfolding count_cell
returns c = last _ _ _ c.in_ok-push_value.ensures c.push_text.ensures
