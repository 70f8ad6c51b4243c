use Rattle.std.proofs.Common.{rules, w16, FitsSigned}
use Rattle.std.proofs.lemmas.Int.{to_z-of_z}
use Rattle.eos_story.proofs.PairsTold.{open_some}
use Rattle.eos_story.proofs.pairs.push_open.Goals as goal

pub returns : goal.returns
returns c =
    let p = c.ranges.producer in
    let e : FitsSigned w16 c.epoch_after-epoch.result = search rules in
    let f : FitsSigned w16 c.in-Some.batch.standing.head.epoch = search rules in
    let after = simp to_z-of_z at c.epoch_after-epoch.ensures in
    let markers = simp to_z-of_z at c.in_ok-push_markers.ensures in
    let states = simp to_z-of_z at c.in_ok-push_last.ensures in
    open_some c.args.producer c.epoch_after-epoch.result c.args.first c.in-Some.batch c.in-Some.is after markers states
