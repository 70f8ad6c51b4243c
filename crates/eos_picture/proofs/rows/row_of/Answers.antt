use Rattle.eos_picture.proofs.TrueMarks.{none_true}
use Rattle.eos_picture.proofs.WholeRows.{whole_row}
use Rattle.eos_picture.proofs.rows.row_of.Goals as goal

pub returns-clause-so : goal.returns-clause-so
returns-clause-so c =
    let first = none_true c.args.part.now c.args.scene.columns.now c.new-marks.result.items c.new-marks.ensures.items in
    (c.in_ok-name_of.ensures, c.in_ok-push_spots.ensures.so (c.in_ok-push_acts.ensures.so (c.in_ok-push_passes.ensures.so (c.in_ok-push_records.ensures.so first))))

pub returns-clause-whole : goal.returns-clause-whole
returns-clause-whole c =
    whole_row c.args.part.now c.args.scene.columns.now c.push_records.new.marks.items c.push_passes.new.marks.items c.push_acts.new.marks.items c.push_spots.new.marks.items
    c.in_ok-push_records.ensures.shows c.in_ok-push_passes.ensures.keeps c.in_ok-push_acts.ensures.keeps c.in_ok-push_acts.ensures.shows c.in_ok-push_spots.ensures.keeps
