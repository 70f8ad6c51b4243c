use Rattle.std.proofs.Common.{ℕ, ◌∙◌, ap, bit_xor}
use Rattle.eos_wire.specs.Crc.{after_bits}
use Rattle.eos_wire.proofs.Register.{sixteen_bytes}
use Rattle.eos_wire.proofs.crc.after_sixteen.Goals as goal

pub returns : goal.returns
returns c =
    let first = c.from_le_bytes-2.result in
    let second = c.from_le_bytes.result in
    ap (λ (z : ℕ). bit_xor z c.after_word.result) c.after_word-back.ensures
    ∙ (ap (bit_xor (after_bits 64 second)) (c.after_word.ensures ∙ ap (λ (r : ℕ). after_bits 128 (bit_xor first r)) c.from.ensures)
    ∙ sixteen_bytes c.args.front.now c.args.back.now c.args.register first second c.told-front c.told-back c.fits-front c.fits-back c.from_le_bytes-2.ensures c.from_le_bytes.ensures)
