use Rattle.std.proofs.Common.{arith, w64, to_z, of_z}
use Rattle.eos_notes.proofs.CountedLooks.{visible_left, below_left}
use Rattle.eos_notes.proofs.groups.count_batch.Goals as goal

pub loop-i-preserved : goal.loop-i-preserved
loop-i-preserved c =
    let seen = c.look-look.ensures in
    let so_far = c.loop-i.invariant in (
      omega (arith, visible_left c.args.batch.now c.loop-i.i seen.0 seen.1, c.in_ok-count.ensures.inputs seen.0 seen.2.fate, so_far.0),
      omega (arith, below_left (to_z w64 (of_z w64 c.args.committed)) c.args.batch.now c.loop-i.i seen.0 seen.1, c.in_ok-count.ensures.below seen.0 seen.2.fate seen.2.offset, so_far.1),
    )
