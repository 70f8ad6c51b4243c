use Rattle.std.proofs.Common.{sym, subst, ap, ◌∙◌, ◌+◌, take, w64, rules}
use Rattle.std.proofs.lemmas.Int.{to_z-of_z}
use mir.Val.{SFits}
use Rattle.eos_txnlog.specs.declared.decision.Decision.{Decision}
use Rattle.eos_table.specs.steps.Keys.{mine}
use Rattle.eos_table.specs.steps.Deciders.{decided_in, AreDeciders}
use Rattle.eos_table.proofs.KeptDeciders.{none_kept, own_decided, other_decided}
use Rattle.eos_table.proofs.decided.deciders_of.Goals as goal
use Rattle.eos_table.proofs.decided.deciders_of.Goals.{then-has+in_ok-take_decision, else-has}

pub loop-decision-init : goal.loop-decision-init
loop-decision-init c = none_kept c.new-deciders.result c.new-deciders.ensures.empty

pub loop-decision-preserved : goal.loop-decision-preserved
loop-decision-preserved c =
    let n = c.args.shard.of in
    let s = c.args.shard.number in
    let ds = c.args.decisions.now in
    let i = c.loop-decision.decision-index in
    let d : Decision = c.decision-item.result in
    let fits : SFits w64 c.producer.result = search rules in
    let own = c.has.ensures ∙ ap (mine n s) (to_z-of_z w64 c.producer.result fits ∙ c.producer.ensures) in
    elim c.if-has.branch [
      | then-has+in_ok-take_decision w ↦
          subst (λ z. AreDeciders z (decided_in n s (take (i + 1) ds))) (sym w.deciders-is)
          (subst (AreDeciders w.take_decision.new.deciders) (own_decided n s ds i d c.loop-decision-test.true c.decision-item.is (sym own ∙ w.if-has.true))
          (w.in_ok-take_decision.ensures (decided_in n s (take i ds)) c.loop-decision.invariant))
      | else-has w ↦
          subst (λ z. AreDeciders z (decided_in n s (take (i + 1) ds))) (sym w.deciders-is)
          (subst (AreDeciders c.loop-decision.deciders) (other_decided n s ds i d c.loop-decision-test.true c.decision-item.is (sym own ∙ w.if-has.false)) c.loop-decision.invariant)
    ]
