use Rattle.std.proofs.Common.{◌≡◌, ◌++◌, List, ℤ, pos, length, ap, ◌∙◌, arith}
use Rattle.std.specs.Prelude.{FitsSigned}
use Rattle.std.specs.Int.{w8, w32, w64}
use Rattle.std.proofs.lemmas.Int.{ints, to_z-of_z, to_z_pos}
use Rattle.std.proofs.lemmas.Result.{on_ok_weaker}
use Rattle.eos_wire.specs.Writing.{varint_of}
use Rattle.eos_batch.specs.declared.record.Header.{Header}
use Rattle.eos_batch.specs.Encoding.{headers_text, body_text}
use Rattle.eos_batch.proofs.EncodingSteps.{body_headers_fit, headers_count, appended_7}
use Rattle.eos_batch.proofs.encode_record.write_body.Goals as goal

pub overflow_cast-headers : goal.overflow_cast-headers
overflow_cast-headers c =
    let fit = body_headers_fit c.args.place c.args.record.now c.requires.size in
    let few = headers_count c.args.record.now.headers in
    let same = ap (λ (hs : List Header). length hs) c.as_slice-headers.ensures in
    omega (arith, fit, few, same)

pub write_headers-requires : goal.write_headers-requires
write_headers-requires c = rw c.as_slice-headers.ensures (body_headers_fit c.args.place c.args.record.now c.requires.size)

pub returns-clause-text : goal.returns-clause-text
unfolding body_text
returns-clause-text c =
    let fits : FitsSigned w64 c.args.record.now.timestamp_delta = omega (arith, ints) in
    let small : FitsSigned w8 c.args.record.now.attributes = omega (arith, ints) in
    let long = simp to_z-of_z at c.in_ok-write_varlong.ensures.ok in
    let short = simp to_z-of_z at c.in_ok-write_i8.ensures.ok in
    let place = to_z_pos w32 c.args.place (omega arith) in
    let few = headers_count c.args.record.now.headers in
    let fit = body_headers_fit c.args.place c.args.record.now c.requires.size in
    let hs : c.as_slice-headers.result.now ≡ c.args.record.now.headers = c.as_slice-headers.ensures in
    let count = to_z_pos w32 (length c.as_slice-headers.result.now) (omega (arith, fit, few, ap (λ (hs : List Header). length hs) hs)) in
    on_ok_weaker c.write_headers.result
    (λ last. appended_7 c.args.out.now.items _ _ _ _ _ _ _ _ _ _ _ _ _ _
    short
    long
    (c.in_ok-write_varint.ensures.ok ∙ ap (λ (z : ℤ). c.write_varlong.new.out.items ++ varint_of z) place)
    c.in_ok-write_optional.ensures
    c.in_ok-write_optional-2.ensures
    (c.in_ok-write_varint-2.ensures.ok ∙ ap (λ (z : ℤ). c.write_optional-2.new.out.items ++ varint_of z) (count ∙ ap (λ (hs : List Header). pos (length hs)) hs))
    (last ∙ ap (λ (hs : List Header). c.write_varint-2.new.out.items ++ headers_text hs) hs))
    c.write_headers.ensures
