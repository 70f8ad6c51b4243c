use Rattle.std.proofs.Common.{arith}
use Rattle.eos_picture.proofs.WholeRows.{acts_next, acts_all, keeps_all}
use Rattle.eos_picture.proofs.acts.push_acts.Goals as goal

pub loop-i-preserved : goal.loop-i-preserved
loop-i-preserved c = record {
  true_yet = λ h. c.in_ok-push_of.ensures.so (c.loop-i.invariant.true_yet h);
  keeps = keeps_all c.args.marks.now.items c.loop-i.marks.items c.push_of.new.marks.items c.loop-i.invariant.keeps c.in_ok-push_of.ensures.keeps;
  shows = acts_next c.args.part.now c.args.scene.columns.now c.loop-i.marks.items c.push_of.new.marks.items c.loop-i.i c.in_ok-push_of.ensures.keeps c.in_ok-push_of.ensures.shows c.loop-i.invariant.shows;
}

pub returns-clause-shows : goal.returns-clause-shows
returns-clause-shows c = acts_all c.args.part.now c.args.scene.columns.now c.loop-i.marks.items c.loop-i.i (omega (arith, c.loop-i-test.false)) c.loop-i.invariant.shows
