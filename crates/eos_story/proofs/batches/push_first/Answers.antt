use Rattle.eos_story.proofs.BatchesTold.{first_told}
use Rattle.eos_story.proofs.batches.push_first.Goals as goal

pub returns : goal.returns
returns c = first_told c.args.name.now c.in_ok-partition.partition c.args.wanted _ c.in_ok-add_row.ensures.are c.in_ok-add_row.ensures.next c.in_ok-partition.ensures
