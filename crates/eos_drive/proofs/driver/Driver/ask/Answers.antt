use Rattle.eos_drive.proofs.Losses.{none_lost}
use Rattle.eos_drive.proofs.driver.Driver.ask.Goals as goal

pub returns : goal.returns
returns c =
    let did = c.take-reply.ensures in
    (did.done.0, did.done.1, did.done.2, did.honest, none_lost _ _ c.args.event c.take-reply.result c.requires.other did.step)
