use Rattle.std.proofs.Common.{◌+◌, ◌-◌, arith}
use Rattle.eos_batch.proofs.EncodingSizes.{goes_on, is_last, is_spent}
use Rattle.eos_batch.proofs.encode_size.groups_size.Goals as goal

pub loop-size-preserved : goal.loop-size-preserved
loop-size-preserved c = record {
  some = omega arith;
  most = omega arith;
  so_far = goes_on c.args.more c.loop-size.size c.loop-size.rest _ (omega arith) (omega arith) (omega arith) c.loop-size.invariant.so_far;
}

pub returns-else-rest-ge128-clause-size : goal.returns-else-rest-ge128-clause-size
returns-else-rest-ge128-clause-size c =
    let e = is_last (c.args.more + 1 - c.loop-size.size) c.loop-size.rest (omega arith) in
    omega (arith, c.loop-size.invariant.so_far, e)

pub returns-after-loop-size-clause-size : goal.returns-after-loop-size-clause-size
returns-after-loop-size-clause-size c = is_spent c.args.more c.loop-size.size c.loop-size.rest c.args.number (omega arith) (omega arith) c.loop-size.invariant.so_far
