-- Names of partitions, topic after topic.
use Rattle.std.proofs.Common.{◌≡◌, ℕ, suc, arith, ℤ, Bool, true, false, ◌&&◌, ◌==◌, List, [], ◌∷◌, ◌++◌, length, map, refl, sym, append_assoc}
use Rattle.std.proofs.lemmas.Bool.{ne_eqb}
use Rattle.eos_base.specs.declared.partition_name.PartitionName.{PartitionName}
use Rattle.eos_text.specs.Adding.{Adds}
use Rattle.eos_txnlog.specs.PartitionSets.{name_of, names_in_topic, names_of}
use Rattle.eos_txnlog.specs.declared.partitions.TopicPartitions.{TopicPartitions}
use Rattle.eos_verdict.specs.FaultTexts.{name_text}
use Rattle.eos_segment.specs.Names.{names_text, separator}

joined : (p a b whole : List ℕ) → whole ≡ a ++ b → p ++ whole ≡ (p ++ a) ++ b
joined p a b whole e = rw e (sym (append_assoc p a b))

some_listed : (ns : List ℤ) → (suc (length ns) == 0) ≡ false
some_listed ns = ne_eqb (suc (length ns)) 0 (λ e. omega (arith, e))

-- the names of a topic, and then those of others
names-append : (is_first : Bool) (topic : List ℕ) (numbers : List ℤ) (others : List PartitionName)
    → names_text is_first (map (name_of topic) numbers ++ others) ≡ names_text is_first (map (name_of topic) numbers) ++ names_text (is_first && (length numbers == 0)) others
names-append true topic [] others = refl
names-append false topic [] others = refl
names-append true topic (n ∷ ns) others = rw (some_listed ns) (joined (separator true ++ name_text topic n) (names_text false (map (name_of topic) ns)) (names_text false others) _ (names-append false topic ns others))
names-append false topic (n ∷ ns) others = joined (separator false ++ name_text topic n) (names_text false (map (name_of topic) ns)) (names_text false others) _ (names-append false topic ns others)

-- a topic more was added
pub one_topic_more : (before after whole : List ℕ) (is_first goes_on : Bool) (t : TopicPartitions) (ts more : List TopicPartitions) → ts ≡ t ∷ more
    → before ++ names_text is_first (names_of ts) ≡ whole → Adds before after (names_text is_first (names_in_topic t)) → goes_on ≡ (is_first && (length t.numbers == 0))
    → after ++ names_text goes_on (names_of more) ≡ whole
one_topic_more before after whole is_first goes_on t ts more e h adds g =
    rw (
      g,
      adds.whole,
      append_assoc before (names_text is_first (names_in_topic t)) (names_text (is_first && (length t.numbers == 0)) (names_of more)),
      ← names-append is_first t.topic t.numbers (names_of more),
    ) (rw e at h)
