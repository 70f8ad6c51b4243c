use Rattle.std.proofs.Common.{◌≡◌, ◌+◌, ◌≤◌, length, vec_capacity, ap, ◌∙◌, sym, arith, rules}
use Rattle.eos_reading.specs.steps.TextEnds.{PackedView}
use Rattle.eos_reading.proofs.TextsPlaced.{texts_length}
use Rattle.eos_reading.proofs.packed_texts.PackedTexts.reserve.Goals as goal

pub returns-clause-count : goal.returns-clause-count
returns-clause-count c = λ t.
    let many : c.len-2.result ≡ length c.more.inside.ends.items = search rules in
    let more : length c.more.inside.ends.items ≡ length c.args.more.now.list = sym (texts_length 0 c.more.inside.ends.items c.more.inside.bytes.items) ∙ ap (λ (v : PackedView). length v.list) c.more.view_is in
    let fits : length c.reserve.new.self.items + c.len-2.result ≤ vec_capacity c.reserve.new.self = search rules in
    omega (arith, many, more, fits, texts_length 0 c.reserve.new.self.items c.reserve-2.new.self.items)
