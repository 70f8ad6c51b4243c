use Rattle.std.proofs.Common.{◌≡◌, Some, arith, rules}
use Rattle.std.specs.Int.{w32, cast_signed, cast_unsigned}
use Rattle.eos_wire.specs.Varint.{varint_at, uvarint_at}
use Rattle.eos_wire.proofs.VarintTexts.{varint_front}
use Rattle.eos_wire.proofs.varint.read_varint.Goals as goal

pub returns-in_err-number-clause-text : goal.returns-in_err-number-clause-text
unfolding varint_at uvarint_at
returns-in_err-number-clause-text c =
    let e : c.from_residual.result ≡ varint_at c.args.bytes.now = search rules in
    varint_front c.args.bytes.now _ (λ i. omega (arith, c.type_inv.bytes i)) e

pub returns-clause-text : goal.returns-clause-text
unfolding varint_at uvarint_at
returns-clause-text c =
    let e : Some (cast_signed w32 (cast_unsigned w32 c.unzigzag_32.result), c.in_ok-number.len) ≡ varint_at c.args.bytes.now = search rules in
    varint_front c.args.bytes.now _ (λ i. omega (arith, c.type_inv.bytes i)) e
