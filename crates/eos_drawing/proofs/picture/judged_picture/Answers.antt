use Rattle.std.proofs.Common.{List, subst}
use Rattle.std.specs.Option.{option_copied}
use Rattle.eos_fold.specs.Parts.{PartLog}
use Rattle.eos_picture.specs.Marks.{HasTrueRows}
use Rattle.eos_picture.specs.Whole.{HasWholeRows}
use Rattle.eos_picture.specs.Window.{IsWindow}
use Rattle.eos_drawing.proofs.KeptPictures.{picture_kept}
use Rattle.eos_drawing.proofs.picture.judged_picture.Goals as goal

pub returns : goal.returns
returns c = λ e is.
    let picture = c.in_ok-picture.picture in
    let fault = option_copied c.args.fault in
    let logs = c.as_slice.ensures.value in
    picture_kept e c.args.judged.now fault c.args.around picture is
    (subst (λ (ls : List PartLog). HasTrueRows ls picture.columns.items picture.rows.items) logs c.in_ok-picture.ensures.so)
    (subst (λ (ls : List PartLog). HasWholeRows ls picture.columns.items picture.rows.items) logs c.in_ok-picture.ensures.whole)
    (subst (λ (ls : List PartLog). IsWindow ls fault c.args.around picture) logs c.in_ok-picture.ensures.window)
