use Rattle.std.proofs.Common.{◌≡◌, length, take, sym, ap, ◌∙◌, arith, rules}
use Rattle.std.proofs.lemmas.List.{take_all}
use Rattle.eos_reading.specs.steps.TextEnds.{PackedView, Reaches, end_of}
use Rattle.eos_reading.proofs.TextsPlaced.{texts_length, cut_reaches, cut_texts}
use Rattle.eos_reading.proofs.packed_texts.PackedTexts.truncate.Goals as goal

pub returns-then-len-count : goal.returns-then-len-count
returns-then-len-count c =
    let n : c.len.result ≡ length c.self.inside.ends.items = search rules in
    let long : length c.args.self.now.list ≡ length c.self.inside.ends.items = sym (ap (λ (v : PackedView). length v.list) c.self.view_is) ∙ texts_length 0 c.self.inside.ends.items c.self.inside.bytes.items in
    sym (take_all c.args.count c.args.self.now.list (omega (arith, n, long, c.if-len-count.true)))

pub invariant_of-self : goal.invariant_of-self
invariant_of-self c =
    let n : c.len.result ≡ length c.self.inside.ends.items = search rules in
    let end : c.end_of-end.result ≡ end_of 0 c.self.inside.ends.items c.args.count = c.end_of-end.ensures ∙ ap (λ ps. end_of 0 ps c.args.count) c.as_slice.ensures.value in
    let h : Reaches 0 c.truncate-2.new.self.items (length c.truncate.new.self.items) =
    rw (c.truncate.ensures.items, c.truncate-2.ensures.items, end)
    (cut_reaches c.self.inside.ends.items c.self.inside.bytes.items c.args.count c.self.invariant (omega (arith, n, c.if-len-count.false))) in
    h

pub returns : goal.returns
returns c =
    let n : c.len.result ≡ length c.self.inside.ends.items = search rules in
    let end : c.end_of-end.result ≡ end_of 0 c.self.inside.ends.items c.args.count = c.end_of-end.ensures ∙ ap (λ ps. end_of 0 ps c.args.count) c.as_slice.ensures.value in
    rw (c.truncate.ensures.items, c.truncate-2.ensures.items, end)
    (cut_texts c.self.inside.ends.items c.self.inside.bytes.items c.args.count c.self.invariant (omega (arith, n, c.if-len-count.false))
    ∙ ap (λ (v : PackedView). take c.args.count v.list) c.self.view_is)
