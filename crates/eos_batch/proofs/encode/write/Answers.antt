use Rattle.std.proofs.Common.{◌≡◌, ◌^◌, ◌<◌, ◌++◌, length, sym, subst, ap, ◌∙◌, arith, List, ℕ}
use Rattle.eos_wire.specs.Crc.{crc32c_of}
use Rattle.eos_batch.specs.Text.{IsBatchText}
use Rattle.eos_batch.specs.Encoding.{covered_text, text_with, batch_text_of}
use Rattle.eos_batch.proofs.EncodingTests.{passes-counted, passes-fits, passes-covered, batch_is}
use Rattle.eos_batch.proofs.encode.write.Goals as goal

pub write_covered-requires-clause-some : goal.write_covered-requires-clause-some
write_covered-requires-clause-some c = let n = passes-counted c.args.batch.now c.requires in n.some

pub write_covered-requires-clause-count : goal.write_covered-requires-clause-count
write_covered-requires-clause-count c = let n = passes-counted c.args.batch.now c.requires in n.fits

pub write_covered-requires-clause-size : goal.write_covered-requires-clause-size
write_covered-requires-clause-size c = passes-fits c.args.batch.now c.requires

pub sealed-requires : goal.sealed-requires
sealed-requires c =
    let covered : c.as_slice.result.now ≡ covered_text c.args.batch.now = c.as_slice.ensures.value ∙ (c.in_ok-write_covered.ensures.text ∙ ap (λ (xs : List ℕ). xs ++ covered_text c.args.batch.now) c.new-covered.ensures.items) in
    omega (arith, passes-covered c.args.batch.now c.requires, ap length covered)

pub returns-clause-text : goal.returns-clause-text
returns-clause-text c =
    let covered : c.as_slice.result.now ≡ covered_text c.args.batch.now = c.as_slice.ensures.value ∙ (c.in_ok-write_covered.ensures.text ∙ ap (λ (xs : List ℕ). xs ++ covered_text c.args.batch.now) c.new-covered.ensures.items) in
    let text : c.in_ok-from_vec.field-0 ≡ batch_text_of c.args.batch.now = c.in_ok-from_vec.ensures.ok ∙ (c.in_ok-text.ensures.text ∙ ap (text_with c.args.batch.now) covered) in
    let sum : crc32c_of (covered_text c.args.batch.now) < 2 ^ 32 = subst (λ (t : List ℕ). crc32c_of t < 2 ^ 32) covered c.in_ok-text.ensures.checksum in
    subst (λ (t : List ℕ). IsBatchText t c.args.batch.now) (sym text)
    (batch_is c.args.batch.now c.requires c.in_ok-write_covered.ensures.widths c.in_ok-text.ensures.base_offset c.in_ok-text.ensures.leader_epoch sum)
