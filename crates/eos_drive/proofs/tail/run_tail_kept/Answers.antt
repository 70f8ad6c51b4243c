use Rattle.eos_drive.proofs.Losses.{lossless_on}
use Rattle.eos_drive.proofs.MoreDeeds.{given_back}
use Rattle.eos_drive.proofs.tail.run_tail_kept.Goals as goal

pub returns-clause-kept : goal.returns-clause-kept
returns-clause-kept c =
    let led = c.show-answer.ensures in
    given_back c.show-answer.new.driver c.new-driver.result.origin _ _ c.args.history.now _ _ led.0 c.new-driver.ensures.origin c.replace-before.ensures.value led.1 c.give_back.ensures

pub returns-clause-lossless : goal.returns-clause-lossless
returns-clause-lossless c lossless = lossless_on c.args.cluster.now.world c.show-answer.new.cluster.world c.show-answer.ensures.4 lossless
