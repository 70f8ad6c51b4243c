use Rattle.eos_report.specs.PageTables.{group_cell}
use Rattle.eos_report.proofs.LastCalls.{last}
use Rattle.eos_report.proofs.page_tables.push_group.Goals as goal

pub returns : goal.returns
unfolding group_cell
returns c =
    let group = simp c.as_bytes.ensures at c.in_ok-push_escaped.ensures in
    last _ _ _ group c.push_text.ensures
