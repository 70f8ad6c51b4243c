use Rattle.std.proofs.Common.{◌≡◌, List, map, fold, ap, ◌∙◌, take_all, w64, rules}
use Rattle.std.proofs.lemmas.Int.{to_z-of_z}
use mir.Val.{SFits}
use Rattle.std.specs.List.{flat_map}
use Rattle.eos_txnlog.specs.declared.decision.Decision.{Decision}
use Rattle.eos_verdict.specs.declared.match_fault.MatchFault.{MatchFault}
use Rattle.eos_table.specs.steps.Keys.{mine, plain_name, plain_ended}
use Rattle.eos_table.specs.steps.Shown.{found, in_shard, listed_by, names_in}
use Rattle.eos_table.proofs.FoldMore.{folded_at}
use Rattle.eos_table.proofs.ShardSteps.{own_taken, other_left}
use Rattle.eos_table.proofs.places.push_names.Goals as goal
use Rattle.eos_table.proofs.places.push_names.Goals.{then-has+in_ok-push_names_of, else-has}

pub loop-decision-preserved : goal.loop-decision-preserved
loop-decision-preserved c =
    let n = c.args.shard.of in
    let s = c.args.shard.number in
    let d : Decision = c.decision-item.result in
    let says : Decision → List MatchFault = listed_by (map plain_name c.args.there.now) (map plain_ended c.args.marked.now) in
    let shown : Decision → List MatchFault = names_in n s (map plain_name c.args.there.now) (map plain_ended c.args.marked.now) in
    let now = c.loop-decision.faults in
    let next = c.if-has.faults in
    let fits : SFits w64 c.producer.result = search rules in
    let own = c.has.ensures ∙ ap (mine n s) (to_z-of_z w64 c.producer.result fits ∙ c.producer.ensures) in
    let first : next ≡ fold found now (in_shard n s d.producer (says d)) = elim c.if-has.branch [
      | then-has+in_ok-push_names_of w ↦ own_taken n s d.producer c.has.result (says d) now next own w.if-has.true (w.faults-is ∙ w.in_ok-push_names_of.ensures)
      | else-has w ↦ other_left n s d.producer c.has.result (says d) now next own w.if-has.false w.faults-is
    ] in
    folded_at found shown c.args.faults.now now next c.args.decisions.now c.loop-decision.decision-index d c.loop-decision-test.true c.loop-decision.invariant
    (first ∙ ap (λ (z : Decision). fold found now (shown z)) c.decision-item.is)

pub returns : goal.returns
returns c =
    let shown = names_in c.args.shard.of c.args.shard.number (map plain_name c.args.there.now) (map plain_ended c.args.marked.now) in
    c.loop-decision.invariant ∙ ap (λ ds. fold found c.args.faults.now (flat_map shown ds)) (take_all c.loop-decision.decision-index c.args.decisions.now c.loop-decision-test.false)
