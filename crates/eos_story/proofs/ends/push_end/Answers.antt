use Rattle.std.proofs.lemmas.Int.{to_z-of_z}
use Rattle.std.proofs.Common.{ap, w64, FitsSigned}
use Rattle.std.proofs.Common.{rules}
use Rattle.eos_base.specs.declared.partition_name.PartitionName.{PartitionName}
use Rattle.eos_story.proofs.BatchesTold.{has_as}
use Rattle.eos_story.specs.declared.row.Row.TheVariants as rows
use Rattle.eos_story.proofs.ends.push_end.Goals as goal

pub returns : goal.returns
returns c =
    let end = c.args.partition.now.end.end in
    let f : FitsSigned w64 c.args.partition.now.end.end = search rules in
    let next = simp to_z-of_z at c.in_ok-add_row.ensures.next in
    has_as (rows.End c.in_ok-partition.partition end) (rows.End c.args.name.now end) c.in_ok-add_row.ensures.are next (ap (λ (n : PartitionName). rows.End n end) c.in_ok-partition.ensures)
