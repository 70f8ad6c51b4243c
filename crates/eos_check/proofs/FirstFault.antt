-- The first phase in which a fault stands has the least fault of all.
use Rattle.std.proofs.Common.{◌≡◌, ℕ, ℤ, false, List, [], ◌∷◌, Option, Some, None, sym, ap, subst, ◌∙◌, inl, inr}
use Rattle.std.specs.List.{AllByRecursion}
use Rattle.std.specs.List.Sorted.{IsStrictlySortedBy}
use Rattle.std.specs.Ordering.{is_gt, ordering_then}
use Rattle.std.specs.declared.cmp.Ordering.{Ordering}
use Rattle.std.specs.declared.cmp.Ordering.TheVariants.{Less, Equal}
use Rattle.std.proofs.lemmas.Cmp.{tied_itself}
use Rattle.std.proofs.lemmas.Map.Keys.{sorted_head, sorted_tail}
use Rattle.eos_base.specs.Least.{UpTo, NoneStands, IsLeast, IsLeastOrNone}
use Rattle.eos_base.specs.declared.partition_name.PartitionName.{PartitionName}
use Rattle.eos_base.specs.PartitionNames.{name_cmp}
use Rattle.eos_base.proofs.NamesInOrder.{name_total}
use Rattle.eos_batch.specs.declared.batch.Batch.{Batch}
use Rattle.eos_evidence.specs.declared.ends.End.{End}
use Rattle.eos_evidence.specs.declared.partition.Partition.{Partition}
use Rattle.eos_evidence.specs.declared.segment.Segment.{Segment}
use Rattle.eos_evidence.specs.Ends.{end_cmp}
use Rattle.eos_touch.specs.declared.fault.PartitionFault.{PartitionFault}
use Rattle.eos_fold.specs.declared.stop.Stop.{Stop}
use Rattle.eos_fold.specs.Fronts.{IsFront}
use Rattle.eos_fold.specs.LeastFaults.{IsFaultOf, IsFirstFault}
use Rattle.eos_fold.specs.Parts.{PartLog}
use Rattle.eos_fold.specs.Standing.{IsPartitionFault}
use Rattle.eos_fold.specs.Standing as folds
use Rattle.eos_commits.specs.EvidenceLogs.{IsLogOf, AreLogsOf}
use Rattle.eos_check.specs.Verdicts.{StandsInPartitions, partition_cmp, name_in}
use Rattle.eos_commits.proofs.LogsInOrder.{ends_of, end_name}
use Rattle.eos_check.proofs.FrontsUnique.{one_front}

-- a fault that stands in one partition is of it
pub of_partition : (p : Partition) (l : PartLog) (of : IsLogOf p l) (f : PartitionFault)
    → folds.IsStanding p.end.topic p.end.partition p.end.end of.batches of.stop f → name_in f ≡ end_name p.end
of_partition p l of f s = λ i. record { topic = s.of_topic i; partition = s.of_number i }

-- those of later partitions have greater names
pub later : (e : End) (ps : List Partition) (ls : List PartLog) (of : AreLogsOf ps ls) → AllByRecursion (λ f. end_cmp e f ≡ Less) (ends_of ps)
    → (g : PartitionFault) → StandsInPartitions ps ls of g → name_cmp (end_name e) (name_in g) ≡ Less
later e [] [] of h g s = absurd s
later e [] (l ∷ ls) of h g s = absurd s
later e (p ∷ ps) [] of h g s = absurd s
later e (p ∷ ps) (l ∷ ls) of h g (inl s) = ap (name_cmp (end_name e)) (of_partition p l of.0 g s) ∙ h.0
later e (p ∷ ps) (l ∷ ls) of h g (inr s) = later e ps ls of.1 h.1 g s

less_first : (a b : Ordering) → a ≡ Less → is_gt (ordering_then a b) ≡ false
less_first a b e = ap (λ (o : Ordering). is_gt (ordering_then o b)) e

equal_first : (a b : Ordering) → a ≡ Equal → is_gt b ≡ false → is_gt (ordering_then a b) ≡ false
equal_first a b e h = ap (λ (o : Ordering). is_gt (ordering_then o b)) e ∙ h

same_name : (f g : PartitionFault) (n : PartitionName) → name_in f ≡ n → name_in g ≡ n → name_cmp (name_in f) (name_in g) ≡ Equal
same_name f g n p q = ap (λ x. name_cmp x (name_in g)) (p ∙ sym q) ∙ tied_itself name_total (name_in g)

-- the faults of one partition
abbrev pub Here : (p : Partition) (l : PartLog) → IsLogOf p l → PartitionFault → Type 0
Here p l of = folds.IsStanding p.end.topic p.end.partition p.end.end of.batches of.stop

-- the least fault of a log stands in the front that is known
pub least_here : (p : Partition) (l : PartLog) (of : IsLogOf p l) (fault : Option PartitionFault) → IsFaultOf l fault → IsLeastOrNone folds.fault_cmp (Here p l of) fault
least_here p l of fault h =
    let front = subst (λ (ss : List Segment). IsFront 0 ss h.batches h.stop) of.log.of_segments h.front in
    let same = one_front 0 p.segments h.batches of.batches h.stop of.stop front of.front in
    let topic = subst (λ (t : List ℕ). IsPartitionFault t l.number l.end h.batches h.stop fault) of.log.of_topic h.least in
    let number = subst (λ (n : ℤ). IsPartitionFault p.end.topic n l.end h.batches h.stop fault) of.log.of_number topic in
    let end = subst (λ (z : ℤ). IsPartitionFault p.end.topic p.end.partition z h.batches h.stop fault) of.log.until number in
    let batches = subst (λ (bs : List Batch). IsPartitionFault p.end.topic p.end.partition p.end.end bs h.stop fault) same.0 end in
    subst (λ (s : Stop). IsPartitionFault p.end.topic p.end.partition p.end.end of.batches s fault) same.1 batches

pub least_of_first : (ps : List Partition) (ls : List PartLog) (of : AreLogsOf ps ls) → IsStrictlySortedBy end_cmp (ends_of ps)
    → (fault : Option PartitionFault) → IsFirstFault ls fault → IsLeastOrNone partition_cmp (StandsInPartitions ps ls of) fault
least_of_first [] [] of h None first = λ f s. s
least_of_first [] [] of h (Some g) first = absurd first
least_of_first [] (l ∷ ls) of h fault first = absurd of
least_of_first (p ∷ ps) [] of h fault first = absurd of
least_of_first (p ∷ ps) (l ∷ ls) of h fault first = by_fault (least_of_first ps ls of.1 (sorted_tail end_cmp p.end (ends_of ps) h)) fault first
  where
    after : (g : PartitionFault) → StandsInPartitions ps ls of.1 g → name_cmp (end_name p.end) (name_in g) ≡ Less
    after = later p.end ps ls of.1 (sorted_head end_cmp p.end (ends_of ps) h)

    in_first : (f : PartitionFault) → IsLeast folds.fault_cmp (Here p l of.0) f → IsLeast partition_cmp (StandsInPartitions (p ∷ ps) (l ∷ ls) of) f
    in_first f m = record { stands = inl m.stands; least = up_to }
      where
        up_to : (g : PartitionFault) → StandsInPartitions (p ∷ ps) (l ∷ ls) of g → UpTo partition_cmp f g
        up_to g (inl s) = equal_first (name_cmp (name_in f) (name_in g)) (folds.fault_cmp f g)
            (same_name f g (end_name p.end) (of_partition p l of.0 f m.stands) (of_partition p l of.0 g s)) (m.least g s)
        up_to g (inr s) = less_first (name_cmp (name_in f) (name_in g)) (folds.fault_cmp f g)
            (ap (λ x. name_cmp x (name_in g)) (of_partition p l of.0 f m.stands) ∙ after g s)

    in_others : NoneStands (Here p l of.0) → (o : Option PartitionFault) → IsLeastOrNone partition_cmp (StandsInPartitions ps ls of.1) o → IsLeastOrNone partition_cmp (StandsInPartitions (p ∷ ps) (l ∷ ls) of) o
    in_others none None m = none_left
      where
        none_left : (g : PartitionFault) → StandsInPartitions (p ∷ ps) (l ∷ ls) of g → ⊥
        none_left g (inl s) = none g s
        none_left g (inr s) = m g s
    in_others none (Some f) m = record { stands = inr m.stands; least = up_to }
      where
        up_to : (g : PartitionFault) → StandsInPartitions (p ∷ ps) (l ∷ ls) of g → UpTo partition_cmp f g
        up_to g (inl s) = absurd (none g s)
        up_to g (inr s) = m.least g s

    by_fault : ((o : Option PartitionFault) → IsFirstFault ls o → IsLeastOrNone partition_cmp (StandsInPartitions ps ls of.1) o)
        → (o : Option PartitionFault) → IsFirstFault (l ∷ ls) o → IsLeastOrNone partition_cmp (StandsInPartitions (p ∷ ps) (l ∷ ls) of) o
    by_fault others None f = in_others (least_here p l of.0 None f.0) None (others None f.1)
    by_fault others (Some g) (inl f) = in_first g (least_here p l of.0 (Some g) f)
    by_fault others (Some g) (inr f) = in_others (least_here p l of.0 None f.0) (Some g) (others (Some g) f.1)
