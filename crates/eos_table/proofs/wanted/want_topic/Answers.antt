use Rattle.std.proofs.Common.{◌<◌, ◌≤◌, ℤ, pos, List, [], ◌∷◌, length, get_or, map, subst, take_all}
use Rattle.eos_txnlog.specs.PartitionSets.{name_of}
use Rattle.eos_table.specs.steps.Wanted.{wish, wishes_in, Take}
use Rattle.eos_table.proofs.WantedLists.{number_taken}
use Rattle.eos_table.proofs.wanted.want_topic.Goals as goal

pub loop-partition-preserved : goal.loop-partition-preserved
loop-partition-preserved c =
    let ps = c.args.parts.now in
    let topic = c.args.topic.now.topic in
    let xs = c.args.topic.now.numbers in
    let i = c.loop-partition.partition-index in
    let same = c.as_slice-partition-items.ensures in
    let inside : i < length xs = subst (λ (zs : List ℤ). i < length zs) same c.loop-partition-test.true in
    let mid = c.loop-partition.lists.items in
    let new = c.want.new.lists.items in
    let step = subst (λ (zs : List ℤ). Take ps (wish c.args.close (name_of topic (get_or zs i (pos 0))) ∷ []) mid new) same (c.in_ok-want.ensures c.if-not-branch.false) in
    number_taken ps c.args.close topic xs i (pos 0) c.args.lists.now.items mid new inside c.loop-partition.invariant step

pub returns : goal.returns
returns c = λ yes.
    let topic = c.args.topic.now.topic in
    let xs = c.args.topic.now.numbers in
    let i = c.loop-partition.partition-index in
    let past : length xs ≤ i = subst (λ (zs : List ℤ). length zs ≤ i) c.as_slice-partition-items.ensures c.loop-partition-test.false in
    subst (λ (zs : List ℤ). Take c.args.parts.now (wishes_in c.args.close (map (name_of topic) zs)) c.args.lists.now.items c.loop-partition.lists.items) (take_all i xs past) c.loop-partition.invariant
