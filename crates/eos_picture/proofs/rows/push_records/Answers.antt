use Rattle.std.proofs.Common.{List, inr, sym, subst}
use Rattle.eos_base.specs.Members.{Has}
use Rattle.eos_fold.specs.declared.item.Item.{Item}
use Rattle.eos_picture.proofs.WholeRows.{keeps_all, records_next, records_all}
use Rattle.eos_picture.proofs.rows.push_records.Goals as goal

pub loop-item-preserved : goal.loop-item-preserved
loop-item-preserved c =
    let next = c.in-Some.ensures.some in
    record {
      true_yet = λ h. c.in_ok-push_record.ensures.so (c.loop-item.invariant.true_yet h);
      keeps = keeps_all c.args.marks.now.items c.loop-item.marks.items c.push_record.new.marks.items c.loop-item.invariant.keeps c.in_ok-push_record.ensures.keeps;
      inside = λ x h. c.loop-item.invariant.inside x (subst (λ (z : List Item). Has z x) (sym next) (inr h));
      shows = records_next c.args.scene.columns.now c.args.part.now.items c.loop-item.items c.next.new.self c.in-Some.item c.loop-item.marks.items c.push_record.new.marks.items next c.in_ok-push_record.ensures.keeps c.in_ok-push_record.ensures.shows c.loop-item.invariant.shows;
    }

pub returns-clause-shows : goal.returns-clause-shows
returns-clause-shows c = records_all c.args.scene.columns.now c.args.part.now.items c.loop-item.items c.loop-item.marks.items c.in_default.ensures.none.0 c.loop-item.invariant.shows
