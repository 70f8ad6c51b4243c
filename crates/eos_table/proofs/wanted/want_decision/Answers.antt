use Rattle.std.proofs.Common.{◌≡◌, ◌<◌, ◌≤◌, List, length, get_or, subst, take_all}
use Rattle.eos_txnlog.specs.declared.partitions.TopicPartitions.{TopicPartitions}
use Rattle.eos_txnlog.specs.PartitionSets.{names_of}
use Rattle.eos_fold.specs.declared.close.Close.{Close}
use Rattle.eos_table.specs.steps.Wanted.{wishes_in, Take}
use Rattle.eos_table.proofs.WantedLists.{topic_taken}
use Rattle.eos_table.proofs.wanted.want_decision.Goals as goal

pub loop-topic-preserved : goal.loop-topic-preserved
loop-topic-preserved c =
    let topics = c.args.decision.now.partitions in
    let i = c.loop-topic.topic-index in
    let t = c.topic-item.result in
    let same = c.partitions-topic-items.ensures in
    let inside : i < length topics = subst (λ (zs : List TopicPartitions). i < length zs) same c.loop-topic-test.true in
    let is : t ≡ get_or topics i t = subst (λ (zs : List TopicPartitions). t ≡ get_or zs i t) same c.topic-item.is in
    topic_taken c.args.parts.now c.close_of-close.result topics i t c.args.lists.now.items c.loop-topic.lists.items c.want_topic.new.lists.items
    inside is c.loop-topic.invariant (c.in_ok-want_topic.ensures c.if-not-branch.false)

pub returns : goal.returns
returns c = λ yes.
    let ps = c.args.parts.now in
    let topics = c.args.decision.now.partitions in
    let i = c.loop-topic.topic-index in
    let old = c.args.lists.now.items in
    let now = c.loop-topic.lists.items in
    let past : length topics ≤ i = subst (λ (zs : List TopicPartitions). length zs ≤ i) c.partitions-topic-items.ensures c.loop-topic-test.false in
    let all = subst (λ (zs : List TopicPartitions). Take ps (wishes_in c.close_of-close.result (names_of zs)) old now) (take_all i topics past) c.loop-topic.invariant in
    subst (λ (k : Close). Take ps (wishes_in k (names_of topics)) old now) c.close_of-close.ensures all
