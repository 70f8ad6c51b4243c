use Rattle.std.proofs.lemmas.Int.{to_z-of_z}
use Rattle.eos_story.proofs.PairsTold.{pair_told}
use Rattle.eos_story.proofs.RowsTold.{then}
use Rattle.eos_story.proofs.pairs.pair_rows.Goals as goal

pub returns : goal.returns
returns c =
    let p = c.ranges.producer in
    let h = simp to_z-of_z at c.in_ok-before.ensures in
    let decided = simp to_z-of_z at c.in_ok-push_ending.ensures in
    let states = simp to_z-of_z at c.in_ok-push_near.ensures in
    pair_told c.args.name.now c.args.producer c.args.offset h.0 c.in_ok-before.before h.1 h.2 (then h.3 (then decided (then c.in_ok-push_between.ensures states)))
