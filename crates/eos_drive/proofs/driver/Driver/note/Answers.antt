use Rattle.eos_drive.proofs.MoreDeeds.{on_noted}
use Rattle.eos_drive.proofs.driver.Driver.note.Goals as goal

pub invariant_of-self-2 : goal.invariant_of-self-2
invariant_of-self-2 c = on_noted _ _ _ _ _ c.args.note c.self.invariant c.in_ok-note_one.ensures.ok
