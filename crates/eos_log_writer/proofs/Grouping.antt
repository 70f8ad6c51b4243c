-- One partition more in front of a list by topic.
use Rattle.std.proofs.Common.{◌≡◌, ℕ, pos, List, [], ◌∷◌, true, false, refl, ◌∙◌}
use Rattle.eos_txnlog.specs.declared.partitions.TopicPartitions.{TopicPartitions}
use Rattle.eos_machine.specs.Rest.{with_number}
use Rattle.eos_log_writer.specs.steps.Grouping.{starts_with}

pub joined : (t : List ℕ) (n : ℕ) (gs hs : List TopicPartitions) → starts_with t gs ≡ true → ((g : TopicPartitions) (rest : List TopicPartitions) → gs ≡ g ∷ rest → hs ≡ record { topic = g.topic; numbers = pos n ∷ g.numbers } ∷ rest) → hs ≡ with_number t n gs
joined t n [] hs s h = absurd cc
joined t n (g ∷ gs) hs s h = h g gs refl ∙ rw s refl

pub separate : (t : List ℕ) (n : ℕ) (gs hs : List TopicPartitions) → starts_with t gs ≡ false → hs ≡ record { topic = t; numbers = pos n ∷ [] } ∷ gs → hs ≡ with_number t n gs
separate t n [] hs s h = h
separate t n (g ∷ gs) hs s h = h ∙ rw s refl
