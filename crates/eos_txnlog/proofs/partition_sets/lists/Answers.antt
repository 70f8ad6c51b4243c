use Rattle.std.proofs.Common.{◌≡◌, ◌∙◌, sym, subst, true, false, arith, get_or}
use Rattle.std.specs.List.{list_any}
use Rattle.std.proofs.lemmas.Grind.{common_steps}
use Rattle.std.proofs.lemmas.Int.{to_z-of_z}
use Rattle.std.proofs.lemmas.List.Folds.{list_any_at}
use Rattle.eos_base.specs.Members.{is_found}
use Rattle.eos_base.specs.PartitionNames.{name_cmp}
use Rattle.eos_txnlog.specs.declared.partitions.TopicPartitions.{TopicPartitions}
use Rattle.eos_txnlog.specs.PartitionSets.{name_of, names_in_topic}
use Rattle.eos_txnlog.proofs.SameNames.{found_in_some, lists_means}
use Rattle.eos_txnlog.proofs.partition_sets.lists.Goals as goal

pub returns-then-is_in_topic-clause-value : goal.returns-then-is_in_topic-clause-value
returns-then-is_in_topic-clause-value c =
    let name = name_of c.args.topic.now c.args.number in
    let hit : is_found name_cmp (names_in_topic c.t-item.result) name ≡ true = grind (arith, to_z-of_z) in
    let at : is_found name_cmp (names_in_topic (get_or c.args.partitions.now c.loop-t.t-index c.t-item.result)) name ≡ true =
    subst (λ (t : TopicPartitions). is_found name_cmp (names_in_topic t) name ≡ true) c.t-item.is hit in
    sym (found_in_some c.args.partitions.now name ∙ list_any_at (λ (t : TopicPartitions). is_found name_cmp (names_in_topic t) name) c.args.partitions.now c.loop-t.t-index c.t-item.result c.loop-t-test.true at)

pub returns-then-is_in_topic-clause-meaning : goal.returns-then-is_in_topic-clause-meaning
returns-then-is_in_topic-clause-meaning c =
    let v = returns-then-is_in_topic-clause-value c in
    let m = lists_means c.args.partitions.now c.args.topic.now c.args.number in
    (λ e. m.0 (sym v), λ h. v ∙ m.1 h)

pub returns-clause-value : goal.returns-clause-value
returns-clause-value c =
    let name = name_of c.args.topic.now c.args.number in
    let none : list_any (λ (t : TopicPartitions). is_found name_cmp (names_in_topic t) name) c.args.partitions.now ≡ false = grind (arith, common_steps, to_z-of_z) in
    sym (found_in_some c.args.partitions.now name ∙ none)

pub returns-clause-meaning : goal.returns-clause-meaning
returns-clause-meaning c =
    let v = returns-clause-value c in
    let m = lists_means c.args.partitions.now c.args.topic.now c.args.number in
    (λ e. m.0 (sym v ∙ e), λ h. v ∙ m.1 h)
