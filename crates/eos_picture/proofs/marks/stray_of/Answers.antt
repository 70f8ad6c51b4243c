use Rattle.std.proofs.Common.{◌∙◌, sym, w16, w64, rules, arith}
use Rattle.std.proofs.lemmas.Int.{to_z-of_z}
use mir.Val.{SFits}
use Rattle.eos_picture.proofs.TrueMarks.{own_true, ends_same}
use Rattle.eos_picture.proofs.marks.stray_of.Goals as goal

pub returns : goal.returns
returns c =
    let end = c.args.end in
    let id_fits : SFits w64 end.producer = search rules in
    let epoch_fits : SFits w16 end.epoch = search rules in
    let id = sym (to_z-of_z w64 end.producer id_fits) in
    let epoch = sym (to_z-of_z w16 end.epoch epoch_fits) in
    let many = c.count_ends-count.ensures ∙ ends_same c.args.part.now.markers _ _ _ _ end.kind id epoch in
    own_true c.args.part.now c.args.scene.columns.now c.own_column.result _ end.kind c.count_ends-count.result c.own_column.ensures (omega (arith, c.if-count-eq0.false)) many
