-- Lists of partitions that `==` finds equal are one list.
use Rattle.std.proofs.Common.{◌≡◌, ap, List}
use Rattle.std.specs.Bool.{Decides}
use Rattle.std.specs.Cmp.Lexicographic.{pointwise, pointwise_decides}
use Rattle.std.proofs.lemmas.Slice.Eq.{bytes_eq-Decides}
use Rattle.std.proofs.lemmas.Bool.Decides.{Decides-and, Decides-int_eq}
use Rattle.eos_txnlog.specs.declared.partitions.TopicPartitions.{TopicPartitions}
use Rattle.eos_txnlog.specs.contracts.partitions.TopicPartitionsPartialEq.TheImpl.{ghosts as test}

topics_decide : (a b : TopicPartitions) → Decides (test.eq a b) (a ≡ b)
topics_decide a b =
    let parts = Decides-and _ _ (bytes_eq-Decides a.topic b.topic) (pointwise_decides (λ x y. Decides-int_eq x y) a.numbers b.numbers) in (
      (λ t. let p = parts.0 t in λ i. record { topic = p.0 i; numbers = p.1 i }),
      (λ e. parts.1 (ap (λ (t : TopicPartitions). t.topic) e, ap (λ (t : TopicPartitions). t.numbers) e)),
    )

pub same_sets : (xs ys : List TopicPartitions) → Decides (pointwise test.eq xs ys) (xs ≡ ys)
same_sets xs ys = pointwise_decides topics_decide xs ys
