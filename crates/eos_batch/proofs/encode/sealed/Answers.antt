use Rattle.std.proofs.Common.{◌++◌, ℕ, ℤ, ◌+◌, length, ap, ◌∙◌, arith}
use Rattle.std.specs.Prelude.{FitsSigned}
use Rattle.std.specs.Int.{w32, w64}
use Rattle.std.proofs.lemmas.Int.{ints, to_z-of_z, to_z_pos}
use Rattle.eos_wire.specs.Numbers.{i32_text, u32_text}
use Rattle.eos_batch.specs.Encoding.{text_with}
use Rattle.eos_batch.proofs.EncodingSteps.{appended_6}
use Rattle.eos_batch.proofs.encode.sealed.Goals as goal

pub returns-clause-text : goal.returns-clause-text
unfolding text_with
returns-clause-text c =
    let base_fits : FitsSigned w64 c.args.batch.now.base_offset = omega (arith, ints) in
    let epoch_fits : FitsSigned w32 c.args.batch.now.leader_epoch = omega (arith, ints) in
    let base = simp to_z-of_z at c.in_ok-write_i64.ensures.ok in
    let epoch = simp to_z-of_z at c.in_ok-write_i32-2.ensures.ok in
    let len = to_z_pos w32 (9 + length c.args.covered.now) (omega (arith, c.requires)) in
    appended_6 c.in_ok-out.out.items _ _ _ _ _ _ _ _ _ _ _ _ c.in_ok-out.ensures.items
    base
    (c.in_ok-write_i32.ensures.ok ∙ ap (λ (z : ℤ). c.write_i64.new.out.items ++ i32_text z) len)
    epoch
    c.in_ok-write_i8.ensures.ok
    (c.in_ok-write_u32.ensures.ok ∙ ap (λ (n : ℕ). c.write_i8.new.out.items ++ u32_text n) c.crc32c.ensures)
    c.in_ok-extend_from_slice.ensures.items
