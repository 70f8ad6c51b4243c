use Rattle.std.proofs.Common.{get_or, inl, arith}
use Rattle.std.proofs.lemmas.Option.{slice_get-get_or}
use Rattle.eos_fold.specs.declared.close.Close.{Close}
use Rattle.eos_picture.specs.Whole.{ShowsClose}
use Rattle.eos_picture.proofs.TrueMarks.{found_true, moved_has}
use Rattle.eos_picture.proofs.WholeRows.{close_shown, kept_close, keeps_all, one_further, all_gone}
use Rattle.eos_picture.proofs.acts.push_closes.Goals as goal

pub close_of-requires : goal.close_of-requires
close_of-requires c = moved_has c.closes-close-items.result.now c.args.part.now.closes c.loop-close.close-index _ c.closes-close-items.ensures.closes c.loop-close-test.true

pub push_found-requires-clause-so : goal.push_found-requires-clause-so
push_found-requires-clause-so c = found_true c.args.part.now _ _ c.close_of.result (slice_get-get_or c.args.scene.columns.now c.args.i c.index-scene-i.result c.requires) c.close_of.ensures.so

pub loop-close-preserved : goal.loop-close-preserved
loop-close-preserved c =
    let markers = c.args.part.now.markers in
    let columns = c.args.scene.columns.now in
    let old = c.loop-close.marks.items in
    let new = c.push_found.new.marks.items in
    let column = get_or columns c.args.i c.index-scene-i.result in
    let at = slice_get-get_or columns c.args.i c.index-scene-i.result c.requires in
    let shown = close_shown markers columns new column c.close_of.result _ c.args.i at c.close_of.ensures.shows c.in_ok-push_found.ensures.shows in
    record {
      true_yet = λ h. c.in_ok-push_found.ensures.so (c.loop-close.invariant.true_yet h);
      keeps = keeps_all c.args.marks.now.items old new c.loop-close.invariant.keeps c.in_ok-push_found.ensures.keeps;
      shows = one_further c.args.part.now.closes c.closes-close-items.result.now c.loop-close.close-index _ (λ (x : Close). ShowsClose markers columns old x c.args.i) (λ (x : Close). ShowsClose markers columns new x c.args.i) c.closes-close-items.ensures.closes c.loop-close-test.true
          (λ x h. kept_close markers columns old new x c.args.i c.in_ok-push_found.ensures.keeps h) shown c.loop-close.invariant.shows;
    }

pub loop-close-init : goal.loop-close-init
loop-close-init c = record { true_yet = λ h. h; keeps = λ x h. h; shows = λ x h. inl h }

pub returns-clause-shows : goal.returns-clause-shows
returns-clause-shows c = all_gone c.args.part.now.closes c.closes-close-items.result.now c.loop-close.close-index (λ (x : Close). ShowsClose c.args.part.now.markers c.args.scene.columns.now c.loop-close.marks.items x c.args.i)
    c.closes-close-items.ensures.closes (omega (arith, c.loop-close-test.false)) c.loop-close.invariant.shows
