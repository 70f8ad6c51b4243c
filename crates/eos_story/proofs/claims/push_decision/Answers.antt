use Rattle.std.proofs.Common.{rules, w16, FitsSigned}
use Rattle.std.proofs.lemmas.Int.{to_z-of_z}
use Rattle.eos_story.proofs.claims.push_decision.Goals as goal

pub returns : goal.returns
returns c =
    let p = c.ranges.producer in
    let q : FitsSigned w16 c.in-Some.marker.standing.head.epoch = search rules in
    let shown = simp to_z-of_z at c.in_ok-count.ensures.told in
    rw c.in-Some.is shown
