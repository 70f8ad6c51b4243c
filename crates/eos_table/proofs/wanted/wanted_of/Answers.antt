use Rattle.eos_table.proofs.WantedLists.{decision_had}
use Rattle.eos_table.proofs.wanted.wanted_of.Goals as goal

pub loop-decision-preserved : goal.loop-decision-preserved
loop-decision-preserved c = decision_had c.args.parts.now c.args.decisions.now c.loop-decision.decision-index c.decision-item.result
    c.loop-decision.lists.items c.want_decision.new.lists.items c.loop-decision-test.true c.decision-item.is c.loop-decision.invariant (c.in_ok-want_decision.ensures c.if-not-branch.false)
