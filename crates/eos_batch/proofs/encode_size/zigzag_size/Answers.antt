use Rattle.std.proofs.Common.{◌+◌, ◌*◌, arith}
use Rattle.eos_batch.proofs.EncodingSizes.{after_first, first_is_last}
use Rattle.eos_batch.proofs.encode_size.zigzag_size.Goals as goal

pub returns-then-half-lt64-clause-even : goal.returns-then-half-lt64-clause-even
returns-then-half-lt64-clause-even c = first_is_last c.args.more c.args.half (2 * c.args.half) (omega arith) (omega arith)

pub returns-then-half-lt64-clause-odd : goal.returns-then-half-lt64-clause-odd
returns-then-half-lt64-clause-odd c = first_is_last c.args.more c.args.half (2 * c.args.half + 1) (omega arith) (omega arith)

pub returns-clause-even : goal.returns-clause-even
returns-clause-even c =
    let e = after_first c.args.more c.args.half (2 * c.args.half) (omega arith) (omega arith) (omega arith) in
    omega (arith, e)

pub returns-clause-odd : goal.returns-clause-odd
returns-clause-odd c =
    let e = after_first c.args.more c.args.half (2 * c.args.half + 1) (omega arith) (omega arith) (omega arith) in
    omega (arith, e)
