use Rattle.std.proofs.Common.{rules, w16, w64, FitsSigned}
use Rattle.std.proofs.lemmas.Int.{to_z-of_z}
use Rattle.eos_story.proofs.moves.is_owed.Goals as goal

pub returns-in_ok-is-in-Data : goal.returns-in_ok-is-in-Data
returns-in_ok-is-in-Data c =
    let p : FitsSigned w64 c.in-Data.producer = search rules in
    let q : FitsSigned w16 c.in-Data.epoch = search rules in
    let told = simp to_z-of_z at c.in_ok-is-in-Data.ensures in
    rw c.in-Data.is told
