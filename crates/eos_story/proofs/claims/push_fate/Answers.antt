use Rattle.std.proofs.lemmas.Int.{to_z-of_z}
use Rattle.eos_story.proofs.ClaimsTold.{ending_told}
use Rattle.eos_story.proofs.claims.push_fate.Goals as goal

pub returns : goal.returns
returns c =
    let p = c.ranges.producer in
    let first = simp to_z-of_z at c.in_ok-marker.ensures in
    let decided = simp to_z-of_z at c.in_ok-push_decision.ensures in
    ending_told c.args.name.now c.args.producer c.args.offset c.in_ok-marker.marker first decided
