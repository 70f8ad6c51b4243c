use Rattle.std.proofs.Common.{List, pos, length, ap, arith}
use Rattle.std.specs.Prelude.{FitsSigned}
use Rattle.std.specs.Int.{w64}
use Rattle.std.proofs.lemmas.Int.{ints, to_z-of_z}
use Rattle.eos_wire.specs.Writing.{varint_of}
use Rattle.eos_batch.specs.declared.record.Header.{Header}
use Rattle.eos_batch.specs.Encoding.{headers_text}
use Rattle.eos_batch.proofs.EncodingSteps.{length-body_text}
use Rattle.eos_batch.proofs.encode_size.body_size.Goals as goal

pub returns : goal.returns
returns c =
    let fits : FitsSigned w64 c.args.record.now.timestamp_delta = omega (arith, ints) in
    let long = simp to_z-of_z at c.varlong_size.ensures.size in
    let e = length-body_text c.args.place c.args.record.now in
    let count = ap (λ (hs : List Header). length (varint_of (pos (length hs)))) c.as_slice-headers.ensures in
    let headers = ap (λ (hs : List Header). length (headers_text hs)) c.as_slice-headers.ensures in
    omega (arith, e, count, headers)
