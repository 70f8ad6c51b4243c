use Rattle.std.proofs.Common.{◌≡◌, fold, subst, ◌∙◌, w16, w64, rules}
use Rattle.std.proofs.lemmas.Int.{to_z-of_z}
use mir.Val.{SFits}
use Rattle.std.specs.BTreeMap.{get}
use Rattle.std.specs.Result.{OnOk}
use Rattle.eos_table.specs.steps.Keys.{pair_cmp}
use Rattle.eos_table.specs.steps.Shown.{found, twice_by}
use Rattle.eos_table.proofs.places.push_decision.Goals as goal

pub returns : goal.returns
returns c =
    let d = c.args.decision.now in
    let producer_fits : SFits w64 c.producer.result = search rules in
    let epoch_fits : SFits w16 c.epoch.result = search rules in
    let producer = to_z-of_z w64 c.producer.result producer_fits ∙ c.producer.ensures in
    let epoch = to_z-of_z w16 c.epoch.result epoch_fits ∙ c.epoch.ensures in
    subst (λ z. OnOk c.push_twice.result (c.push_twice.new.faults ≡ fold found c.args.faults.now (twice_by z d)))
    (c.decided_of-decided.ensures ∙ (λ i. get pair_cmp c.args.deciders.now (producer i, epoch i))) c.push_twice.ensures
