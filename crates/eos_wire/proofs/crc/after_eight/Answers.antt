use Rattle.std.proofs.Common.{ℕ, ◌∙◌, ap, bit_xor}
use Rattle.eos_wire.specs.Crc.{after_bits}
use Rattle.eos_wire.proofs.Register.{eight_bytes}
use Rattle.eos_wire.proofs.crc.after_eight.Goals as goal

pub returns : goal.returns
returns c =
    c.after_word.ensures ∙ (ap (λ (r : ℕ). after_bits 64 (bit_xor c.from_le_bytes.result r)) c.from.ensures
    ∙ eight_bytes c.args.bytes.now c.args.register c.from_le_bytes.result c.told-bytes c.fits-bytes c.from_le_bytes.ensures)
