use Rattle.std.proofs.Common.{◌≡◌, ◌<◌, ◌≤◌, ◌∙◌, ℕ, ℤ, pos, List, length, get_or, map, fold, ap, sym, subst, take_all}
use Rattle.std.specs.List.{flat_map}
use Rattle.std.proofs.lemmas.List.Folds.{flat_map-map}
use Rattle.eos_base.specs.declared.partition_name.PartitionName.{PartitionName}
use Rattle.eos_table.specs.steps.Keys.{plain_name, plain_ended}
use Rattle.eos_table.specs.steps.Shown.{found, name_by}
use Rattle.eos_table.proofs.FoldMore.{folded_at}
use Rattle.eos_table.proofs.places.push_topic.Goals as goal

abbrev name_in : List ℕ → ℤ → PartitionName
name_in topic n = record { topic = topic; partition = n }

pub returns : goal.returns
returns c =
    let topic = c.args.topic.now.topic in
    let xs = c.args.topic.now.numbers in
    let i = c.loop-partition.partition-index in
    let shown = name_by (map plain_name c.args.there.now) (map plain_ended c.args.marked.now) c.args.decision.now in
    let old = c.args.faults.now in
    let past : length xs ≤ i = subst (λ (zs : List ℤ). length zs ≤ i) c.as_slice-partition-items.ensures c.loop-partition-test.false in
    c.loop-partition.invariant
    ∙ (ap (λ (ns : List ℤ). fold found old (flat_map (λ (n : ℤ). shown (name_in topic n)) ns)) (take_all i xs past) ∙ sym (ap (fold found old) (flat_map-map shown (name_in topic) xs)))

pub loop-partition-preserved : goal.loop-partition-preserved
loop-partition-preserved c =
    let i = c.loop-partition.partition-index in
    let xs = c.args.topic.now.numbers in
    let same = c.as_slice-partition-items.ensures in
    let shown = name_by (map plain_name c.args.there.now) (map plain_ended c.args.marked.now) c.args.decision.now in
    let by_number = λ (n : ℤ). shown (name_in c.args.topic.now.topic n) in
    let now = c.loop-partition.faults in
    let next = c.push_name.new.faults in
    let inside : i < length xs = subst (λ zs. i < length zs) same c.loop-partition-test.true in
    let lent = subst (λ name. next ≡ fold found now (shown name)) c.name_in.ensures c.in_ok-push_name.ensures in
    let here = subst (λ zs. next ≡ fold found now (by_number (get_or zs i (pos 0)))) same lent in
    folded_at found by_number c.args.faults.now now next xs i (pos 0) inside c.loop-partition.invariant here
