use Rattle.std.proofs.Common.{get_or}
use Rattle.std.proofs.lemmas.Option.{slice_get-get_or}
use Rattle.eos_picture.proofs.TrueMarks.{found_true}
use Rattle.eos_picture.proofs.WholeRows.{all_acts}
use Rattle.eos_picture.proofs.acts.push_of.Goals as goal

pub push_found-requires-clause-so : goal.push_found-requires-clause-so
push_found-requires-clause-so c = found_true c.args.part.now _ _ c.decision_of.result (slice_get-get_or c.args.scene.columns.now c.args.i c.index-scene-i.result c.requires) c.decision_of.ensures.so

pub push_found-requires-2-clause-so : goal.push_found-requires-2-clause-so
push_found-requires-2-clause-so c = found_true c.args.part.now _ _ c.ends_of.result (slice_get-get_or c.args.scene.columns.now c.args.i c.index-scene-i.result c.requires) c.ends_of.ensures.so

pub push_found-requires-3-clause-so : goal.push_found-requires-3-clause-so
push_found-requires-3-clause-so c = found_true c.args.part.now _ _ c.ends_of-2.result (slice_get-get_or c.args.scene.columns.now c.args.i c.index-scene-i.result c.requires) c.ends_of-2.ensures.so

pub push_found-requires-4-clause-so : goal.push_found-requires-4-clause-so
push_found-requires-4-clause-so c = found_true c.args.part.now _ _ c.missing_of.result (slice_get-get_or c.args.scene.columns.now c.args.i c.index-scene-i.result c.requires) c.missing_of.ensures.so

pub returns-clause-so : goal.returns-clause-so
returns-clause-so c = λ h. c.in_ok-push_closes.ensures.so (c.in_ok-push_found-4.ensures.so (c.in_ok-push_found-3.ensures.so (c.in_ok-push_found-2.ensures.so (c.in_ok-push_found.ensures.so h))))

pub returns-clause-keeps : goal.returns-clause-keeps
returns-clause-keeps c = λ x h. c.in_ok-push_closes.ensures.keeps x (c.in_ok-push_found-4.ensures.keeps x (c.in_ok-push_found-3.ensures.keeps x (c.in_ok-push_found-2.ensures.keeps x (c.in_ok-push_found.ensures.keeps x h))))

pub returns-clause-shows : goal.returns-clause-shows
returns-clause-shows c =
    let columns = c.args.scene.columns.now in
    let column = get_or columns c.args.i c.index-scene-i.result in
    let at = slice_get-get_or columns c.args.i c.index-scene-i.result c.requires in
    all_acts c.args.part.now columns column c.decision_of.result c.ends_of.result c.ends_of-2.result c.missing_of.result c.push_found.new.marks.items c.push_found-2.new.marks.items c.push_found-3.new.marks.items
    c.push_found-4.new.marks.items c.push_closes.new.marks.items c.args.i at c.decision_of.ensures.shows c.in_ok-push_found.ensures.shows c.in_ok-push_found-2.ensures.keeps c.ends_of.ensures.shows c.in_ok-push_found-2.ensures.shows
    c.in_ok-push_found-3.ensures.keeps c.ends_of-2.ensures.shows c.in_ok-push_found-3.ensures.shows c.in_ok-push_found-4.ensures.keeps c.missing_of.ensures.shows c.in_ok-push_found-4.ensures.shows c.in_ok-push_closes.ensures.keeps
    c.in_ok-push_closes.ensures.shows
