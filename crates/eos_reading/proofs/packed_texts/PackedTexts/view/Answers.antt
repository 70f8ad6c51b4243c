use Rattle.std.proofs.Common.{◌≡◌, ℕ, ◌<◌, List, length, slice_get, slice_range, Some, refl, sym, ap, ◌∙◌, arith, rules}
use Rattle.std.proofs.lemmas.Option.{slice_get_read}
use Rattle.eos_reading.specs.steps.TextEnds.{PackedView, EndView, end_of, text_of}
use Rattle.eos_reading.proofs.TextsPlaced.{texts_length, text_within, text_at}
use Rattle.eos_reading.proofs.packed_texts.PackedTexts.view.Goals as goal

pub index-text-requires : goal.index-text-requires
index-text-requires c =
    let long : length c.args.self.now.list ≡ length c.self.inside.ends.items = sym (ap (λ (v : PackedView). length v.list) c.self.view_is) ∙ texts_length 0 c.self.inside.ends.items c.self.inside.bytes.items in
    let lt : c.args.i < length c.self.inside.ends.items = omega (arith, long, c.requires) in
    search rules

pub end_of-begin-requires : goal.end_of-begin-requires
end_of-begin-requires c =
    let long : length c.args.self.now.list ≡ length c.self.inside.ends.items = sym (ap (λ (v : PackedView). length v.list) c.self.view_is) ∙ texts_length 0 c.self.inside.ends.items c.self.inside.bytes.items in
    omega (arith, long, c.requires, ap length c.as_slice.ensures.value)

pub lent-requires-clause-key : goal.lent-requires-clause-key
lent-requires-clause-key c =
    let ends = c.self.inside.ends.items in
    let bytes = c.self.inside.bytes.items in
    let text = c.index-text.result.now in
    let long : length c.args.self.now.list ≡ length ends = sym (ap (λ (v : PackedView). length v.list) c.self.view_is) ∙ texts_length 0 ends bytes in
    let at : slice_get ends c.args.i ≡ Some text = slice_get_read ends (length ends) c.args.i text refl (omega (arith, long, c.requires)) c.index-text.ensures in
    let within = text_within 0 ends (length bytes) c.args.i text c.self.invariant at in
    let begin : c.end_of-begin.result ≡ end_of 0 ends c.args.i = c.end_of-begin.ensures ∙ ap (λ (ps : List EndView). end_of 0 ps c.args.i) c.as_slice.ensures.value in
    omega (arith, within.0, begin)

pub lent-requires-clause-end : goal.lent-requires-clause-end
lent-requires-clause-end c =
    let ends = c.self.inside.ends.items in
    let bytes = c.self.inside.bytes.items in
    let text = c.index-text.result.now in
    let long : length c.args.self.now.list ≡ length ends = sym (ap (λ (v : PackedView). length v.list) c.self.view_is) ∙ texts_length 0 ends bytes in
    let at : slice_get ends c.args.i ≡ Some text = slice_get_read ends (length ends) c.args.i text refl (omega (arith, long, c.requires)) c.index-text.ensures in
    omega (arith, (text_within 0 ends (length bytes) c.args.i text c.self.invariant at).1, ap length c.as_slice-2.ensures.value)

pub returns-clause-lent : goal.returns-clause-lent
returns-clause-lent c =
    let ends = c.self.inside.ends.items in
    let bytes = c.self.inside.bytes.items in
    let text = c.index-text.result.now in
    let long : length c.args.self.now.list ≡ length ends = sym (ap (λ (v : PackedView). length v.list) c.self.view_is) ∙ texts_length 0 ends bytes in
    let at : slice_get ends c.args.i ≡ Some text = slice_get_read ends (length ends) c.args.i text refl (omega (arith, long, c.requires)) c.index-text.ensures in
    let begin : c.end_of-begin.result ≡ end_of 0 ends c.args.i = c.end_of-begin.ensures ∙ ap (λ (ps : List EndView). end_of 0 ps c.args.i) c.as_slice.ensures.value in
    let is : c.lent.result ≡ text_of text (slice_range bytes (end_of 0 ends c.args.i) text.end) =
    c.lent.ensures ∙ (ap (λ (n : ℕ). text_of text (slice_range c.as_slice-2.result.now n text.end)) begin
    ∙ ap (λ (bs : List ℕ). text_of text (slice_range bs (end_of 0 ends c.args.i) text.end)) c.as_slice-2.ensures.value) in
    ap (λ (v : PackedView). slice_get v.list c.args.i) (sym c.self.view_is) ∙ (text_at 0 ends bytes c.args.i text at ∙ ap Some (sym is))
