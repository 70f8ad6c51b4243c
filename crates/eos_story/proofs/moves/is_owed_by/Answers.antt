use Rattle.std.proofs.Common.{rules, sym, ◌∙◌, w16, w64, FitsSigned}
use Rattle.std.proofs.lemmas.Int.{to_z-of_z}
use Rattle.eos_story.proofs.BothHold.{both}
use Rattle.eos_story.proofs.moves.is_owed_by.Goals as goal

pub returns : goal.returns
returns c =
    let p : FitsSigned w64 c.args.producer = search rules in
    let q : FitsSigned w16 c.args.epoch = search rules in
    let r : FitsSigned w16 c.epoch_after.result = search rules in
    let has = simp to_z-of_z at c.has_writer.ensures in
    let after = simp to_z-of_z at c.epoch_after.ensures in
    let decided = simp to_z-of_z at c.in_ok-is.ensures in
    both _ _ _ (sym c.is_of_offsets.ensures ∙ c.if-not-is_of_offsets.false) (both _ _ _ (sym has ∙ c.if-not-has_writer.false) (rw after at decided))
