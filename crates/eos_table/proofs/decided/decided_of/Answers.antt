use Rattle.std.proofs.Common.{◌∙◌, w16, w64, rules}
use Rattle.std.proofs.lemmas.Int.{to_z-of_z}
use mir.Val.{SFits}
use Rattle.std.specs.BTreeMap.{get}
use Rattle.eos_table.specs.steps.Keys.{pair_cmp}
use Rattle.eos_table.proofs.decided.decided_of.Goals as goal

pub returns : goal.returns
returns c =
    let producer_fits : SFits w64 c.args.producer = search rules in
    let epoch_fits : SFits w16 c.args.epoch = search rules in
    let producer = to_z-of_z w64 c.args.producer producer_fits in
    let epoch = to_z-of_z w16 c.args.epoch epoch_fits in
    c.copied.ensures ∙ (c.get.ensures.value ∙ (λ i. get pair_cmp c.args.deciders.now (producer i, epoch i)))
