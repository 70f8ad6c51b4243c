use Rattle.eos_report.specs.PageTables.{partitions_text}
use Rattle.eos_report.proofs.LastCalls.{last}
use Rattle.eos_report.proofs.page_tables.push_partitions.Goals as goal

pub returns : goal.returns
unfolding partitions_text
returns c = last _ _ _ c.in_ok-push_text.ensures (last _ _ _ (rw c.as_slice.ensures at c.in_ok-push_rows.ensures) c.push_text-2.ensures)
