use Rattle.eos_drive.proofs.Losses.{lossless_on}
use Rattle.eos_drive.proofs.tail.run_tail.Goals as goal

pub returns-clause-lossless : goal.returns-clause-lossless
returns-clause-lossless c lossless = lossless_on c.args.cluster.now.world c.show-answer.new.cluster.world c.show-answer.ensures.4 lossless
