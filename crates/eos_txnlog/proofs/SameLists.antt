-- Lists of partitions that `==` finds equal are one list.
use Rattle.std.proofs.Common.{◌≡◌, ap, List}
use Rattle.std.specs.Bool.{Decides}
use Rattle.std.specs.Cmp.Lexicographic.{pointwise, pointwise_decides}
use Rattle.std.proofs.lemmas.Slice.Eq.{bytes_eq-Decides}
use Rattle.std.proofs.lemmas.Bool.Decides.{Decides-and, Decides-int_eq}
use Rattle.eos_txnlog.specs.declared.partitions.TopicPartitions.{TopicPartitions}
use Rattle.eos_txnlog.specs.contracts.partitions.TopicPartitionsPartialEq.TheImpl.{ghosts as test}

same_topic : (a b : TopicPartitions) → a.topic ≡ b.topic → a.numbers ≡ b.numbers → a ≡ b
same_topic a b p q = λ i. record { topic = p i; numbers = q i }

topics_decide : (a b : TopicPartitions) → Decides (test.eq a b) (a ≡ b)
topics_decide a b =
    let parts = Decides-and _ _ (bytes_eq-Decides a.topic b.topic) (pointwise_decides (λ x y. Decides-int_eq x y) a.numbers b.numbers) in (
      (λ t. let p = parts.0 t in same_topic a b p.0 p.1),
      (λ e. parts.1 (ap (λ (t : TopicPartitions). t.topic) e, ap (λ (t : TopicPartitions). t.numbers) e)),
    )

pub same_lists : (xs ys : List TopicPartitions) → Decides (pointwise test.eq xs ys) (xs ≡ ys)
same_lists xs ys = pointwise_decides topics_decide xs ys
