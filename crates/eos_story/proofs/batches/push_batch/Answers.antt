use Rattle.eos_story.proofs.RowsPushed.{one_of}
use Rattle.eos_story.proofs.batches.push_batch.Goals as goal

pub add_row-requires : goal.add_row-requires
add_row-requires c = λ ps seen. one_of ps c.args.found.now.name.now c.in_ok-partition.partition c.args.found.now.wanted c.args.found.now.batches.now c.args.placed (c.requires.found ps seen) c.in_ok-partition.ensures c.requires.has
