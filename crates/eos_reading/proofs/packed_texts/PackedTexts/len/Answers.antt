use Rattle.std.proofs.Common.{◌≡◌, length, sym, ap, ◌∙◌, rules}
use Rattle.eos_reading.specs.steps.TextEnds.{PackedView}
use Rattle.eos_reading.proofs.TextsPlaced.{texts_length}
use Rattle.eos_reading.proofs.packed_texts.PackedTexts.len.Goals as goal

pub returns : goal.returns
returns c =
    let n : c.len.result ≡ length c.self.inside.ends.items = search rules in
    n ∙ (sym (texts_length 0 c.self.inside.ends.items c.self.inside.bytes.items) ∙ ap (λ (v : PackedView). length v.list) c.self.view_is)
