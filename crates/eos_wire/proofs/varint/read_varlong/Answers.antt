use Rattle.std.proofs.Common.{◌≡◌, Some, arith, rules}
use Rattle.std.specs.Int.{w64, cast_signed, cast_unsigned}
use Rattle.eos_wire.specs.Varint.{varlong_at, uvarint_at}
use Rattle.eos_wire.proofs.VarintTexts.{varlong_front}
use Rattle.eos_wire.proofs.varint.read_varlong.Goals as goal

pub returns-in_err-number-clause-text : goal.returns-in_err-number-clause-text
unfolding varlong_at uvarint_at
returns-in_err-number-clause-text c =
    let e : c.from_residual.result ≡ varlong_at c.args.bytes.now = search rules in
    varlong_front c.args.bytes.now _ (λ i. omega (arith, c.type_inv.bytes i)) e

pub returns-clause-text : goal.returns-clause-text
unfolding varlong_at uvarint_at
returns-clause-text c =
    let e : Some (cast_signed w64 (cast_unsigned w64 c.unzigzag_64.result), c.in_ok-number.len) ≡ varlong_at c.args.bytes.now = search rules in
    varlong_front c.args.bytes.now _ (λ i. omega (arith, c.type_inv.bytes i)) e
