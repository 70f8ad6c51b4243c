use Rattle.std.proofs.lemmas.Int.{to_z-of_z}
use Rattle.std.proofs.Common.{rules, w16, w64, FitsSigned}
use Rattle.eos_story.proofs.beside.push_owed.Goals as goal

pub returns-in-Some : goal.returns-in-Some
returns-in-Some c =
    let p : FitsSigned w64 c.in-Some.producer = search rules in
    let q : FitsSigned w16 c.in-Some.epoch = search rules in
    let told = simp to_z-of_z at c.push_owed_of.ensures in
    rw c.in-Some.is told
