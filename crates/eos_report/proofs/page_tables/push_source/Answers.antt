use Rattle.eos_report.specs.PageTables.{source_row}
use Rattle.eos_report.proofs.LastCalls.{last}
use Rattle.eos_report.proofs.page_tables.push_source.Goals as goal

pub returns : goal.returns
unfolding source_row
returns c =
    let name = simp c.as_slice.ensures at c.in_ok-push_name.ensures in
    last _ _ _ c.in_ok-push_group.ensures (last _ _ _ name (last _ _ _ c.in_ok-push_offset.ensures (last _ _ _ c.in_ok-push_offset-2.ensures (last _ _ _ c.in_ok-push_count.ensures c.push_text.ensures))))
