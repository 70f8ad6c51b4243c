use Rattle.eos_drive.proofs.Losses.{lossless_on}
use Rattle.eos_drive.proofs.MoreDeeds.{given_back}
use Rattle.eos_drive.proofs.scripted.run_kept.Goals as goal

pub returns-clause-kept : goal.returns-clause-kept
returns-clause-kept c =
    let led = c.drive_words-answer.ensures in
    given_back c.drive_words-answer.new.driver c.new-driver.result.origin _ _ c.args.history.now _ _ led.done.0 c.new-driver.ensures.origin c.replace-before.ensures.value led.done.1 c.give_back.ensures

pub returns-clause-lossless : goal.returns-clause-lossless
returns-clause-lossless c unlost lossless = lossless_on c.args.cluster.now.world c.drive_words-answer.new.cluster.world (c.drive_words-answer.ensures.lossless unlost) lossless
