use Rattle.std.proofs.Common.{◌≡◌, ◌∙◌, ap, sym, refl}
use Rattle.eos_drive.specs.steps.Drives.{Drive}
use Rattle.eos_drive.proofs.MoreDeeds.{on_set, on_same}
use Rattle.eos_drive.proofs.driver.Driver.set.Goals as goal

pub invariant_of-self-2 : goal.invariant_of-self-2
invariant_of-self-2 c =
    let told = c.in_ok-set_one.ensures in
    let here : c.self.inside.course.value ≡ c.args.cluster.now = ap (λ (d : Drive). d.course) c.self.view_is ∙ c.requires in
    on_same _ _ _ _ _ _ (on_set _ _ c.args.cluster.now _ _ _ c.args.switches (on_same _ _ _ _ _ _ c.self.invariant (sym here) refl) told.cluster told.kept) c.of.ensures refl
