use Rattle.std.proofs.Common.{◌≡◌, [], ◌++◌, ◌∙◌, ap, sym, map, rules, w64, to_z, of_z, if◌then◌else◌, subst, take_all, IsPermutation}
use Rattle.std.proofs.lemmas.List.{append-nil}
use Rattle.std.proofs.lemmas.Int.{to_z-of_z}
use mir.Val.{SFits}
use Rattle.eos_txnlog.specs.declared.decision.Decision.{Decision}
use Rattle.eos_txnlog.specs.PartitionSets.{names_of}
use Rattle.std.proofs.lemmas.List.Sorted.{IsPermutation-map}
use Rattle.eos_table.specs.steps.Keys.{listed, mine, plain_listed, listed_of}
use Rattle.eos_table.proofs.FoldMore.{pushed_more}
use Rattle.eos_table.proofs.key.listed_keys.Goals.{then-has+in_ok-push_listed, else-has}
use Rattle.eos_table.proofs.key.listed_keys.Goals as goal

pub loop-decision-preserved : goal.loop-decision-preserved
loop-decision-preserved c =
    let d = c.decision-item.result in
    let fits : SFits w64 c.producer.result = search rules in
    let own : mine c.args.shard.of c.args.shard.number (to_z w64 (of_z w64 c.producer.result)) ≡ mine c.args.shard.of c.args.shard.number d.producer = ap (mine c.args.shard.of c.args.shard.number) (to_z-of_z w64 c.producer.result fits ∙ c.producer.ensures) in
    let before = map plain_listed c.loop-decision.keys.items in
    let here = listed_of d (names_of d.partitions) in
    pushed_more (λ (d : Decision). if mine c.args.shard.of c.args.shard.number d.producer then listed_of d (names_of d.partitions) else [])
    before (map plain_listed c.if-has.keys.items) c.args.decisions.now c.loop-decision.decision-index d
    c.loop-decision-test.true c.decision-item.is c.loop-decision.invariant
    (elim c.if-has.branch [
      | then-has+in_ok-push_listed w ↦ (λ i. map plain_listed (w.keys-is i).items) ∙ (w.in_ok-push_listed.ensures ∙ ap (λ b. before ++ (if b then here else [])) (w.if-has.ensures ∙ own))
      | else-has w ↦ (λ i. map plain_listed (w.keys-is i).items) ∙ (sym (append-nil before) ∙ ap (λ b. before ++ (if b then here else [])) (w.if-has.ensures ∙ own))
    ])

pub returns : goal.returns
returns c =
    let all = c.loop-decision.invariant ∙ ap (listed c.args.shard.of c.args.shard.number) (take_all c.loop-decision.decision-index c.args.decisions.now c.loop-decision-test.false) in
    subst (λ z. IsPermutation z (map plain_listed c.of.result)) all (IsPermutation-map plain_listed _ _ c.of.ensures)
