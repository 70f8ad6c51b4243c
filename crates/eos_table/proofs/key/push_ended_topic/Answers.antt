use Rattle.std.proofs.Common.{◌≡◌, ◌<◌, ◌≤◌, [], ◌∷◌, ◌++◌, ◌∙◌, ℤ, pos, List, length, get_or, map, ap, subst, take_all, w16, w64, rules}
use Rattle.std.proofs.lemmas.Int.{to_z-of_z}
use mir.Val.{SFits}
use Rattle.std.proofs.lemmas.List.{map-append}
use Rattle.eos_base.specs.declared.partition_name.PartitionName.{PartitionName}
use Rattle.eos_batch.specs.declared.marker.Kind.{Kind}
use Rattle.eos_txnlog.specs.PartitionSets.{name_of}
use Rattle.eos_table.specs.steps.Keys.{plain_ended, ended_of}
use Rattle.eos_table.proofs.FoldMore.{named_more}
use Rattle.eos_table.proofs.key.push_ended_topic.Goals as goal

pub loop-partition-preserved : goal.loop-partition-preserved
loop-partition-preserved c =
    let i = c.loop-partition.partition-index in
    let xs = c.args.topic.now.numbers in
    let same = c.as_slice-partition-items.ensures in
    let d = c.args.decision.now in
    let now = c.loop-partition.keys.items in
    let before = map plain_ended now in
    let next = map plain_ended c.push.new.self.items in
    let key : PartitionName → ℤ × ℤ × Kind × PartitionName = λ m. (d.producer, d.marker_epoch, d.kind, m) in
    let zs = c.as_slice-partition-items.result.now in
    let producer_fits : SFits w64 c.producer.result = search rules in
    let epoch_fits : SFits w16 c.marker_epoch.result = search rules in
    let producer = to_z-of_z w64 c.producer.result producer_fits ∙ c.producer.ensures in
    let epoch = to_z-of_z w16 c.marker_epoch.result epoch_fits ∙ c.marker_epoch.ensures in
    let pushed : next ≡ before ++ key (name_of c.args.topic.now.topic (get_or zs i (pos 0))) ∷ [] =
    ap (map plain_ended) c.in_ok-push.ensures.items ∙ (map-append plain_ended now _ ∙ ap (λ k. before ++ k ∷ []) (λ j. (producer j, epoch j, c.kind.ensures j, c.name_in.ensures j))) in
    let here = subst (λ (zs : List ℤ). next ≡ before ++ key (name_of c.args.topic.now.topic (get_or zs i (pos 0))) ∷ []) same pushed in
    let inside = subst (λ (zs : List ℤ). i < length zs) same c.loop-partition-test.true in
    named_more key (name_of c.args.topic.now.topic) (map plain_ended c.args.keys.now.items) before next xs i (pos 0) inside c.loop-partition.invariant here

pub returns : goal.returns
returns c =
    let i = c.loop-partition.partition-index in
    let xs = c.args.topic.now.numbers in
    let past : length xs ≤ i = subst (λ (zs : List ℤ). length zs ≤ i) c.as_slice-partition-items.ensures c.loop-partition-test.false in
    c.loop-partition.invariant ∙ ap (λ ns. map plain_ended c.args.keys.now.items ++ ended_of c.args.decision.now (map (name_of c.args.topic.now.topic) ns)) (take_all i xs past)
