use Rattle.std.proofs.lemmas.Int.{to_z-of_z}
use Rattle.std.proofs.Common.{ap, w16, w64, FitsSigned, rules}
use Rattle.eos_story.specs.Questions.{of_match, of_ended}
use Rattle.eos_story.proofs.RowsTold.{then, each_as}
use Rattle.eos_story.proofs.kinds.match_rows.Goals as goal

pub returns : goal.returns
unfolding of_ended
returns c =
    let p : FitsSigned w64 c.args.fault.now.producer = search rules in
    let q : FitsSigned w16 c.args.fault.now.epoch = search rules in
    let m : FitsSigned w16 c.marker_epoch-epoch.result = search rules in
    let logs = c.args.scene.now.logs.now in
    let epoch = simp to_z-of_z at c.marker_epoch-epoch.ensures in
    let listed = simp to_z-of_z at c.in_ok-push_listing.ensures in
    let there = simp to_z-of_z at c.in_ok-push_there.ensures in
    let about = simp to_z-of_z at c.in_ok-push_about.ensures in
    each_as (of_match logs c.args.fault.now) (ap (of_ended logs c.args.fault.now) epoch) (then listed (then there about))
