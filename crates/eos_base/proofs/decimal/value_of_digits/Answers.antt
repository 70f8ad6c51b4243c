use Rattle.std.proofs.Common.{arith}
use Rattle.eos_base.proofs.PlainNumbers.{few_digits}
use Rattle.eos_base.proofs.decimal.value_of_digits.Goals as goal

pub overflow_mul-value : goal.overflow_mul-value
overflow_mul-value c =
    let most = few_digits c.loop-byte.byte-index (omega (arith, c.requires.short)) in
    omega (arith, c.loop-byte.invariant.small, most)

pub overflow_add-value : goal.overflow_add-value
overflow_add-value c =
    let most = few_digits c.loop-byte.byte-index (omega (arith, c.requires.short)) in
    omega (arith, c.loop-byte.invariant.small, most)
