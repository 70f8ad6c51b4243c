use Rattle.std.proofs.Common.{◌≡◌, ◌<◌, ◌^◌, Some, sym, arith, rules}
use Rattle.eos_wire.specs.Varint.{uvarint_at}
use Rattle.eos_wire.proofs.VarintTexts.{number_below, uvarint_front}
use Rattle.eos_wire.proofs.varint.read_uvarint.Goals as goal

pub returns-in_err-number-clause-text : goal.returns-in_err-number-clause-text
unfolding uvarint_at
returns-in_err-number-clause-text c =
    let e : c.from_residual.result ≡ uvarint_at c.args.bytes.now = search rules in
    uvarint_front c.args.bytes.now _ (λ i. omega (arith, c.type_inv.bytes i)) e

pub overflow_cast-result : goal.overflow_cast-result
overflow_cast-result c =
    let h : c.in_ok-number.number < 2 ^ 32 = number_below 4 15 c.args.bytes.now (c.in_ok-number.number, c.in_ok-number.len) (λ i. omega (arith, c.type_inv.bytes i)) (sym c.in_ok-number.ensures.value) in
    omega (arith, h)

pub returns-clause-text : goal.returns-clause-text
unfolding uvarint_at
returns-clause-text c =
    let e : Some (c.in_ok-number.number, c.in_ok-number.len) ≡ uvarint_at c.args.bytes.now = search rules in
    uvarint_front c.args.bytes.now _ (λ i. omega (arith, c.type_inv.bytes i)) e
