use Rattle.eos_drive.proofs.Losses.{none_lost_by}
use Rattle.eos_drive.proofs.driver.Driver.elect.Goals as goal

pub returns : goal.returns
returns c =
    let did = c.take-reply.ensures in
    (did.done.0, did.done.1, did.done.2, did.honest, none_lost_by _ _ c.args.topic c.args.partition c.records_in-kept.result c.take-reply.result c.records_in-kept.ensures did.step)
