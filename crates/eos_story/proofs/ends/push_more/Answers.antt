use Rattle.std.proofs.Common.{ap, length}
use Rattle.eos_story.proofs.EndsTold.{segments_of, more_segments}
use Rattle.eos_story.proofs.ends.push_more.Goals as goal

pub add_row-requires : goal.add_row-requires
add_row-requires c = λ ps seen. segments_of ps c.args.name.now c.in_ok-partition.partition c.args.partition.now (length c.as_slice-all.result.now) (c.requires ps seen) c.in_ok-partition.ensures (ap length c.as_slice-all.ensures.value)

pub returns-in_ok-add_row : goal.returns-in_ok-add_row
returns-in_ok-add_row c = more_segments c.args.name.now c.in_ok-partition.partition c.args.partition.now c.args.shown c.in_ok-add_row.ensures.are c.in_ok-add_row.ensures.next c.in_ok-partition.ensures (ap length c.as_slice-all.ensures.value)
