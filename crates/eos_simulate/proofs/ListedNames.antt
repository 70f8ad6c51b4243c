-- The names of the partitions that a record of the transaction log lists.
use Rattle.std.proofs.Common.{◌≡◌, ℕ, zero, suc, pos, Bool, true, false, List, [], ◌∷◌, refl, sym, ap, subst, ◌∙◌, arith, inl, inr, ◌⊎◌}
use Rattle.std.specs.Prelude.{if◌then◌else◌}
use Rattle.std.specs.List.{Contains}
use Rattle.std.proofs.lemmas.Slice.Eq.{bytes_eq-Decides}
use Rattle.eos_base.specs.declared.partition_name.PartitionName.{PartitionName}
use Rattle.eos_base.specs.Members.{Has}
use Rattle.eos_txnlog.specs.declared.partitions.TopicPartitions.{TopicPartitions}
use Rattle.eos_txnlog.specs.PartitionSets.{names_of}
use Rattle.eos_machine.specs.declared.config.Config.{Config}
use Rattle.eos_machine.specs.LogIndexes.{topic_of, number_of, is_topic}
use Rattle.eos_machine.specs.Rest.{with_number, by_topic}

-- ---- members by place in a list

pub has_contained : {X : Type 0} (xs : List X) (x : X) → Contains xs x → Has xs x
has_contained [] x h = absurd (let l = h.1 in omega (arith, l))
has_contained (y ∷ ys) x (zero, l, e) = inl e
has_contained (y ∷ ys) x (suc k, l, e) = inr (has_contained ys x (k, omega (arith, l), e))

pub contains_had : {X : Type 0} (xs : List X) (x : X) → Has xs x → Contains xs x
contains_had [] x h = absurd h
contains_had (y ∷ ys) x (inl e) = (0, omega arith, e)
contains_had (y ∷ ys) x (inr h) = let r = contains_had ys x h in (suc r.0, omega (arith, r.1), r.2)

-- ---- names

abbrev pub name_at : Config → ℕ → PartitionName
name_at c p = record { topic = topic_of c p; partition = pos (number_of c p) }

abbrev named : List ℕ → ℕ → PartitionName
named topic number = record { topic = topic; partition = pos number }

topic_is : (t u : List ℕ) → is_topic t u ≡ true → t ≡ u
topic_is t u h = (bytes_eq-Decides t u).0 h

in_with : (t : List ℕ) (k : ℕ) (gs : List TopicPartitions) (n : PartitionName) → Has (names_of (with_number t k gs)) n → (n ≡ named t k) ⊎ Has (names_of gs) n
in_with t k [] n (inl e) = inl (sym e)
in_with t k [] n (inr h) = absurd h
in_with t k (g ∷ gs) n h = by (is_topic t g.topic) refl h
  where
    by : (b : Bool) → is_topic t g.topic ≡ b
        → Has (names_of (if b then record { topic = g.topic; numbers = pos k ∷ g.numbers } ∷ gs else record { topic = t; numbers = pos k ∷ [] } ∷ (g ∷ gs))) n → (n ≡ named t k) ⊎ Has (names_of (g ∷ gs)) n
    by true e (inl q) = inl (sym q ∙ ap (λ u. named u k) (sym (topic_is t g.topic e)))
    by true e (inr q) = inr q
    by false e (inl q) = inl (sym q)
    by false e (inr q) = inr q

with_own : (t : List ℕ) (k : ℕ) (gs : List TopicPartitions) → Has (names_of (with_number t k gs)) (named t k)
with_own t k [] = inl refl
with_own t k (g ∷ gs) = by (is_topic t g.topic) refl
  where
    by : (b : Bool) → is_topic t g.topic ≡ b → Has (names_of (if b then record { topic = g.topic; numbers = pos k ∷ g.numbers } ∷ gs else record { topic = t; numbers = pos k ∷ [] } ∷ (g ∷ gs))) (named t k)
    by true e = inl (ap (λ u. named u k) (sym (topic_is t g.topic e)))
    by false e = inl refl

with_others : (t : List ℕ) (k : ℕ) (gs : List TopicPartitions) (n : PartitionName) → Has (names_of gs) n → Has (names_of (with_number t k gs)) n
with_others t k [] n h = absurd h
with_others t k (g ∷ gs) n h = by (is_topic t g.topic)
  where
    by : (b : Bool) → Has (names_of (if b then record { topic = g.topic; numbers = pos k ∷ g.numbers } ∷ gs else record { topic = t; numbers = pos k ∷ [] } ∷ (g ∷ gs))) n
    by true = inr h
    by false = inr h

pub listed_at : (c : Config) (ps : List ℕ) (n : PartitionName) → Has (names_of (by_topic c ps)) n → (p : ℕ) × Has ps p × (n ≡ name_at c p)
listed_at c [] n h = absurd h
listed_at c (p ∷ ps) n h = elim (in_with (topic_of c p) (number_of c p) (by_topic c ps) n h) [
  | inl e ↦ (p, inl refl, e)
  | inr k ↦ let r = listed_at c ps n k in (r.0, inr r.1, r.2)
]

pub at_listed : (c : Config) (ps : List ℕ) (p : ℕ) → Has ps p → Has (names_of (by_topic c ps)) (name_at c p)
at_listed c [] p h = absurd h
at_listed c (q ∷ qs) p (inl e) = subst (λ r. Has (names_of (by_topic c (q ∷ qs))) (name_at c r)) e (with_own (topic_of c q) (number_of c q) (by_topic c qs))
at_listed c (q ∷ qs) p (inr h) = with_others (topic_of c q) (number_of c q) (by_topic c qs) (name_at c p) (at_listed c qs p h)
