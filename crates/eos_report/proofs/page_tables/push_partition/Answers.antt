use Rattle.eos_report.specs.PageTables.{partition_row}
use Rattle.eos_report.proofs.LastCalls.{last}
use Rattle.eos_report.proofs.page_tables.push_partition.Goals as goal

pub returns : goal.returns
unfolding partition_row
returns c =
    let name = simp c.as_slice.ensures at c.in_ok-push_name.ensures in
    last _ _ _ c.in_ok-push_text.ensures (last _ _ _ name (last _ _ _ c.in_ok-push_roles.ensures (last _ _ _ c.in_ok-push_offset.ensures (last _ _ _ c.in_ok-push_sizes.ensures c.push_text-2.ensures))))
