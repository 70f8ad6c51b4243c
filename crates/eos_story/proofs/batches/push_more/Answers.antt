use Rattle.std.proofs.Common.{refl}
use Rattle.eos_story.proofs.BatchesTold.{more_told}
use Rattle.eos_story.proofs.batches.push_more.Goals as goal

pub returns-in_ok-add_row : goal.returns-in_ok-add_row
returns-in_ok-add_row c = more_told c.args.found.now c.args.most c.in_ok-partition.partition c.in_ok-add_row.ensures.are c.in_ok-add_row.ensures.next c.in_ok-partition.ensures refl
