use Rattle.eos_picture.proofs.WholeRows.{keeps_all}
use Rattle.eos_picture.proofs.marks.push_spots.Goals as goal

pub loop-spot-preserved : goal.loop-spot-preserved
loop-spot-preserved c = record {
  true_yet = λ h. c.in_ok-push_absent.ensures.so (c.loop-spot.invariant.true_yet h);
  keeps = keeps_all c.args.marks.now.items c.loop-spot.marks.items c.push_absent.new.marks.items c.loop-spot.invariant.keeps c.in_ok-push_absent.ensures.keeps;
}
