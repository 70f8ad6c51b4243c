use Rattle.eos_report.specs.PageTables.{groups_text}
use Rattle.eos_report.proofs.LastCalls.{last}
use Rattle.eos_report.proofs.page_tables.push_groups.Goals as goal

pub returns : goal.returns
unfolding groups_text
returns c = last _ _ _ c.in_ok-push_text.ensures (last _ _ _ c.in_ok-push_known.ensures c.push_text-2.ensures)
