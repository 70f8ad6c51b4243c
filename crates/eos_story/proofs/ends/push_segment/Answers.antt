use Rattle.eos_story.proofs.EndsTold.{segment_of}
use Rattle.eos_story.proofs.ends.push_segment.Goals as goal

pub add_row-requires : goal.add_row-requires
add_row-requires c = λ ps seen. segment_of ps c.args.name.now c.in_ok-partition.partition c.args.partition.now c.args.fold.now c.begin_of-base.result (c.requires.named ps seen) c.in_ok-partition.ensures c.requires.has c.begin_of-base.ensures
