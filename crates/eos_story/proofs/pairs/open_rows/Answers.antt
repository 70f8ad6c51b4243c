use Rattle.std.proofs.lemmas.Int.{to_z-of_z}
use Rattle.eos_story.proofs.PairsTold.{open_told}
use Rattle.eos_story.proofs.pairs.open_rows.Goals as goal

pub returns : goal.returns
returns c =
    let p = c.ranges.producer in
    let h = simp to_z-of_z at c.in_ok-from.ensures in
    let first = simp to_z-of_z at c.in_ok-first.ensures in
    let told = simp to_z-of_z at c.in_ok-push_open.ensures in
    open_told c.args.name.now c.args.producer h.0 c.in_ok-first.first h.1 h.2 first told
