use Rattle.std.proofs.Common.{◌≡◌, ◌<◌, ◌++◌, ℤ, List, [], ◌∷◌, length, get_or, pos, subst, arith}
use Rattle.std.proofs.lemmas.Int.{to_z-of_z}
use Rattle.eos_txnlog.specs.PartitionSets.{name_of}
use Rattle.eos_txnlog.proofs.Appended.{item_more}
use Rattle.eos_txnlog.proofs.partition_sets.push_of_topic.Goals as goal

pub loop-number-preserved : goal.loop-number-preserved
loop-number-preserved c =
    let t = c.args.t.now in
    let i = c.loop-number.number-index in
    let inside : i < length t.numbers = subst (λ (numbers : List ℤ). i < length numbers) c.as_slice-number-items.ensures c.loop-number-test.true in
    let pushed : c.push.new.self.items ≡ c.loop-number.names.items ++ name_of t.topic (get_or t.numbers i (pos 0)) ∷ [] = grind (arith, to_z-of_z) in
    item_more (name_of t.topic) c.args.names.now.items c.loop-number.names.items c.push.new.self.items t.numbers i (pos 0) inside c.loop-number.invariant pushed
