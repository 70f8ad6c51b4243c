use Rattle.std.proofs.Common.{Some, cond, ap, ◌∙◌, w16, w64, rules}
use Rattle.std.proofs.lemmas.Int.{to_z-of_z}
use mir.Val.{SFits}
use Rattle.std.specs.BTreeMap.{get}
use Rattle.std.specs.Ordering.{is_eq}
use Rattle.eos_table.specs.steps.Keys.{pair_cmp}
use Rattle.eos_table.specs.steps.Deciders.{with_decision}
use Rattle.eos_table.proofs.KeptDeciders.{deciders_more}
use Rattle.eos_table.proofs.decided.take_decision.Goals as goal

pub returns : goal.returns
returns c = λ before are.
    let d = c.args.decision.now in
    let producer_fits : SFits w64 c.producer-producer.result = search rules in
    let epoch_fits : SFits w16 c.epoch-epoch.result = search rules in
    let producer = to_z-of_z w64 c.producer-producer.result producer_fits ∙ c.producer-producer.ensures in
    let epoch = to_z-of_z w16 c.epoch-epoch.result epoch_fits ∙ c.epoch-epoch.ensures in
    deciders_more c.args.deciders.now c.insert.new.self before d c.with_decision-decided.result are
    (c.with_decision-decided.ensures ∙ ap (λ z. with_decision z d) (c.decided_of-known.ensures ∙ (λ i. get pair_cmp c.args.deciders.now (producer i, epoch i))))
    (λ p e. c.in_ok-insert.ensures.updates.0 (p, e) ∙ (λ i. cond (is_eq (pair_cmp (producer i, epoch i) (p, e))) (Some c.with_decision-decided.result) (get pair_cmp c.args.deciders.now (p, e))))
