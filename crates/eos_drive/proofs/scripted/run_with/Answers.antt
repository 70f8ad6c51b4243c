use Rattle.eos_drive.proofs.Losses.{lossless_on}
use Rattle.eos_drive.proofs.scripted.run_with.Goals as goal

pub returns-clause-lossless : goal.returns-clause-lossless
returns-clause-lossless c unlost lossless = lossless_on c.args.cluster.now.world c.drive_words-answer.new.cluster.world (c.drive_words-answer.ensures.lossless unlost) lossless
