use Rattle.std.proofs.Common.{◌≡◌, ℤ, List, [], ◌∷◌, ◌++◌, ◌∙◌, ap, sym, rules, w16, w64, to_z, of_z, if◌then◌else◌, take_all}
use Rattle.std.proofs.lemmas.List.{append-nil}
use Rattle.std.proofs.lemmas.Int.{to_z-of_z}
use mir.Val.{SFits}
use Rattle.eos_txnlog.specs.declared.decision.Decision.{Decision}
use Rattle.eos_table.specs.steps.Keys.{decided, mine}
use Rattle.eos_table.proofs.FoldMore.{pushed_more}
use Rattle.eos_table.proofs.key.decided_keys.Goals.{then-has+in_ok-push, else-has}
use Rattle.eos_table.proofs.key.decided_keys.Goals as goal

pub loop-decision-preserved : goal.loop-decision-preserved
loop-decision-preserved c =
    let d = c.decision-item.result in
    let n = c.args.shard.of in
    let s = c.args.shard.number in
    let fits : SFits w64 c.producer.result = search rules in
    let own : mine n s (to_z w64 (of_z w64 c.producer.result)) ≡ mine n s d.producer = ap (mine n s) (to_z-of_z w64 c.producer.result fits ∙ c.producer.ensures) in
    let before = c.loop-decision.keys.items in
    let here : List (ℤ × ℤ) = (d.producer, d.epoch) ∷ [] in
    pushed_more (λ (d : Decision). if mine n s d.producer then (d.producer, d.epoch) ∷ [] else [])
    before c.if-has.keys.items c.args.decisions.now c.loop-decision.decision-index d
    c.loop-decision-test.true c.decision-item.is c.loop-decision.invariant
    (elim c.if-has.branch [
      | then-has+in_ok-push w ↦
          let producer_fits : SFits w64 w.producer-then-has.result = search rules in
          let epoch_fits : SFits w16 w.epoch.result = search rules in
          let producer = to_z-of_z w64 w.producer-then-has.result producer_fits ∙ w.producer-then-has.ensures in
          let epoch = to_z-of_z w16 w.epoch.result epoch_fits ∙ w.epoch.ensures in
          (λ i. (w.keys-is i).items)
          ∙ (w.in_ok-push.ensures.items ∙ (ap (λ (k : ℤ × ℤ). before ++ k ∷ []) (λ j. (producer j, epoch j)) ∙ ap (λ b. before ++ (if b then here else [])) (w.if-has.ensures ∙ own)))
      | else-has w ↦ (λ i. (w.keys-is i).items) ∙ (sym (append-nil before) ∙ ap (λ b. before ++ (if b then here else [])) (w.if-has.ensures ∙ own))
    ])

pub returns : goal.returns
returns c = c.loop-decision.invariant ∙ ap (decided c.args.shard.of c.args.shard.number) (take_all c.loop-decision.decision-index c.args.decisions.now c.loop-decision-test.false)
