use Rattle.std.proofs.Common.{◌%◌, ◌^◌, ◌∙◌, ap, sym, flat_map, map-id}
use Rattle.std.proofs.lemmas.Iterator.{YieldsList-from_chars}
use Rattle.std.proofs.lemmas.Iterator.Consumers.{YieldsList-end}
use Rattle.std.specs.Char.Escape.{encode_utf16}
use Rattle.eos_manifest.specs.Coordinators.{weighted}
use Rattle.eos_manifest.proofs.coordinator.bits_of_hash.Goals as goal

pub returns : goal.returns
returns c =
    let end = YieldsList-end (YieldsList-from_chars c.args.text.now c.utf8.text cc) c.loop-c.yielded _ c.loop-c.yielded_by _ _ c.in-None.is c.next.ensures.steps in
    c.loop-c.invariant ∙ ap (λ cs. weighted (flat_map encode_utf16 cs) % 2 ^ 32) (sym (map-id c.loop-c.yielded) ∙ end.0)
