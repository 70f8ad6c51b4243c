use Rattle.std.proofs.Common.{◌≡◌, ◌++◌, List, ℕ, ℤ, ◌-◌, pos, length, ap, ◌∙◌, arith}
use Rattle.std.specs.Prelude.{FitsSigned}
use Rattle.std.specs.Int.{w16, w32, w64}
use Rattle.std.proofs.lemmas.Int.{ints, to_z-of_z, to_z_pos}
use Rattle.std.proofs.lemmas.Result.{on_ok_weaker}
use Rattle.eos_wire.specs.Numbers.{i32_text}
use Rattle.eos_batch.specs.declared.record.Record.{Record}
use Rattle.eos_batch.specs.Encoding.{covered_text, records_text}
use Rattle.eos_batch.proofs.EncodingSteps.{appended_9}
use Rattle.eos_batch.proofs.encode.write_covered.Goals as goal

pub returns-clause-text : goal.returns-clause-text
unfolding covered_text
returns-clause-text c =
    let rs : c.as_slice-records.result.now ≡ c.args.batch.now.records = c.as_slice-records.ensures in
    let n : length c.as_slice-records.result.now ≡ length c.args.batch.now.records = ap (λ (rs : List Record). length rs) rs in
    let attributes_fit : FitsSigned w16 c.args.batch.now.attributes = omega (arith, ints) in
    let base_fits : FitsSigned w64 c.args.batch.now.base_timestamp = omega (arith, ints) in
    let max_fits : FitsSigned w64 c.args.batch.now.max_timestamp = omega (arith, ints) in
    let producer_fits : FitsSigned w64 c.args.batch.now.producer = omega (arith, ints) in
    let epoch_fits : FitsSigned w16 c.args.batch.now.epoch = omega (arith, ints) in
    let sequence_fits : FitsSigned w32 c.args.batch.now.sequence = omega (arith, ints) in
    let attributes = simp to_z-of_z at c.in_ok-write_i16.ensures.ok in
    let base = simp to_z-of_z at c.in_ok-write_i64.ensures.ok in
    let max = simp to_z-of_z at c.in_ok-write_i64-2.ensures.ok in
    let producer = simp to_z-of_z at c.in_ok-write_i64-3.ensures.ok in
    let epoch = simp to_z-of_z at c.in_ok-write_i16-2.ensures.ok in
    let sequence = simp to_z-of_z at c.in_ok-write_i32-2.ensures.ok in
    let last = to_z_pos w32 (length c.as_slice-records.result.now - 1) (omega (arith, n)) in
    let count = to_z_pos w32 (length c.as_slice-records.result.now) (omega (arith, n)) in
    on_ok_weaker c.write_records.result
    (λ last_part. appended_9 c.args.out.now.items _ _ _ _ _ _ _ _ _ _ _ _ _ _ _ _ _ _
    attributes
    (c.in_ok-write_i32.ensures.ok ∙ ap (λ (z : ℤ). c.write_i16.new.out.items ++ i32_text z) (last ∙ ap (λ (n : ℕ). pos (n - 1)) n))
    base
    max
    producer
    epoch
    sequence
    (c.in_ok-write_i32-3.ensures.ok ∙ ap (λ (z : ℤ). c.write_i32-2.new.out.items ++ i32_text z) (count ∙ ap pos n))
    (last_part ∙ ap (λ (rs : List Record). c.write_i32-3.new.out.items ++ records_text 0 rs) rs))
    c.write_records.ensures.text
