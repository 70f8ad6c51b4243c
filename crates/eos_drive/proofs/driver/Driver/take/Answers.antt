use Rattle.std.proofs.Common.{◌≡◌, ◌∙◌, ap, sym, refl}
use Rattle.eos_drive.specs.steps.Drives.{Drive}
use Rattle.eos_drive.proofs.MoreDeeds.{on_asked, on_same}
use Rattle.eos_drive.proofs.driver.Driver.take.Goals as goal

pub invariant_of-self : goal.invariant_of-self
invariant_of-self c =
    let told = c.ask_one-reply.ensures in
    let here : c.self.inside.course.value ≡ c.args.cluster.now = ap (λ (d : Drive). d.course) c.self.view_is ∙ c.requires in
    on_same _ _ _ _ _ _ (on_asked _ _ c.args.cluster.now _ _ _ c.args.event c.ask_one-reply.result (on_same _ _ _ _ _ _ c.self.invariant (sym here) refl) told.step told.counted told.kept) c.of.ensures refl
