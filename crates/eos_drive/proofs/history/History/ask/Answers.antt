use Rattle.std.proofs.Common.{List, ◌∙◌, ap}
use Rattle.eos_drive.specs.declared.deed.Deed.{Deed}
use Rattle.eos_drive.specs.Driven.{recorded}
use Rattle.eos_drive.proofs.MoreDeeds.{kept_asked}
use Rattle.eos_drive.proofs.history.History.ask.Goals as goal

pub returns-clause-kept : goal.returns-clause-kept
returns-clause-kept c =
    let told = c.answer.ensures in
    kept_asked c.args.cluster.now c.answer.new.cluster c.args.self.now _ c.args.event c.answer.result told.step told.counted (told.deeds ∙ ap (λ (b : List Deed). recorded b c.args.event c.answer.result) c.self.view_is)
