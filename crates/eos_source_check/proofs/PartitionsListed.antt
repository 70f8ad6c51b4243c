-- The faults of partitions, of one after the other, are all that stand in them, in order.
use Rattle.std.proofs.Common.{◌≡◌, List, [], ◌∷◌, ◌++◌, sym, ap, subst, ◌∙◌, inl, inr, ◌⊎◌}
use Rattle.std.proofs.lemmas.Cmp.{tied_itself}
use Rattle.std.proofs.lemmas.Map.Keys.{sorted_head, sorted_tail}
use Rattle.std.specs.List.Sorted.{IsStrictlySortedBy}
use Rattle.std.specs.Ordering.{ordering_then}
use Rattle.std.specs.declared.cmp.Ordering.{Ordering}
use Rattle.std.specs.declared.cmp.Ordering.TheVariants.{Less, Equal}
use Rattle.eos_base.specs.Members.{Has}
use Rattle.eos_base.specs.PartitionNames.{name_cmp}
use Rattle.eos_base.proofs.Membership.{append_cases, append_left, append_right}
use Rattle.eos_base.proofs.NamesInOrder.{name_total}
use Rattle.eos_evidence.specs.declared.partition.Partition.{Partition}
use Rattle.eos_evidence.specs.Ends.{end_cmp}
use Rattle.eos_touch.specs.declared.fault.PartitionFault.{PartitionFault}
use Rattle.eos_fold.specs.declared.stop.Stop.{Stop}
use Rattle.eos_fold.specs.Parts.{PartLog}
use Rattle.eos_fold.specs.Standing as folds
use Rattle.eos_commits.specs.EvidenceLogs.{IsLogOf, AreLogsOf}
use Rattle.eos_commits.proofs.LogsInOrder.{ends_of}
use Rattle.eos_check.proofs.FirstFault.{Here}
use Rattle.eos_check.specs.Verdicts.{StandsInPartitions, partition_cmp, name_in}
use Rattle.eos_check.proofs.FirstFault.{of_partition, later}
use Rattle.eos_check.proofs.FrontsUnique.{one_front}
use Rattle.eos_base.specs.AllOf.{IsAllOf}
use Rattle.eos_faults.specs.PartitionLists.{AreFaultsOf}
use Rattle.eos_source_check.specs.steps.InPartitions.{AreFaultsIn}
use Rattle.eos_source_check.proofs.RisingLists.{rises_joined, rises_in}

-- ---- one partition after the other

-- ---- what they are

-- the log has the front that was walked along
same_front : (p : Partition) (l : PartLog) (of : IsLogOf p l) (list : List PartitionFault) → AreFaultsOf p list → IsAllOf folds.fault_cmp (Here p l of) list
same_front p l of list a =
    let e = one_front 0 p.segments a.batches of.batches a.stop of.stop a.front of.front in
    subst (λ (s : Stop). IsAllOf folds.fault_cmp (folds.IsStanding p.end.topic p.end.partition p.end.end of.batches s) list) e.1
    (subst (λ bs. IsAllOf folds.fault_cmp (folds.IsStanding p.end.topic p.end.partition p.end.end bs a.stop) list) e.0 a.faults)

less_then : (a b : Ordering) → a ≡ Less → ordering_then a b ≡ Less
less_then a b e = ap (λ o. ordering_then o b) e

equal_then : (a b : Ordering) → a ≡ Equal → b ≡ Less → ordering_then a b ≡ Less
equal_then a b e h = ap (λ o. ordering_then o b) e ∙ h

same_name : (p : Partition) (l : PartLog) (of : IsLogOf p l) (f g : PartitionFault) → Here p l of f → Here p l of g → name_cmp (name_in f) (name_in g) ≡ Equal
same_name p l of f g h k = ap (λ n. name_cmp n (name_in g)) (of_partition p l of f h ∙ sym (of_partition p l of g k)) ∙ tied_itself name_total (name_in g)

pub listed : (ps : List Partition) (ls : List PartLog) (of : AreLogsOf ps ls) → IsStrictlySortedBy end_cmp (ends_of ps) → (list : List PartitionFault) → AreFaultsIn ps list → IsAllOf partition_cmp (StandsInPartitions ps ls of) list
unfolding IsStrictlySortedBy
listed [] [] of up list e = subst (IsAllOf partition_cmp (λ f. ⊥)) (sym e) (record { rises = tt; members = λ f. (λ h. h, λ h. h) })
listed [] (l ∷ ls) of up list e = absurd of
listed (p ∷ ps) [] of up list h = absurd of
listed (p ∷ ps) (l ∷ ls) of up list h = joined h.0 h.1 h.3 (same_front p l of.0 h.0 h.2) (listed ps ls of.1 (sorted_tail end_cmp p.end (ends_of ps) up) h.1 h.4)
  where
    joined : (here others : List PartitionFault) → list ≡ here ++ others → IsAllOf folds.fault_cmp (Here p l of.0) here → IsAllOf partition_cmp (StandsInPartitions ps ls of.1) others → IsAllOf partition_cmp (StandsInPartitions (p ∷ ps) (l ∷ ls) of) list
    joined here others e mine rest = subst (IsAllOf partition_cmp (StandsInPartitions (p ∷ ps) (l ∷ ls) of)) (sym e) (record {
      rises = rises_joined partition_cmp here others (rises_in folds.fault_cmp partition_cmp here inside mine.rises) rest.rises below;
      members = λ f. (there f, back f);
    })
      where
        inside : (f g : PartitionFault) → Has here f → Has here g → folds.fault_cmp f g ≡ Less → partition_cmp f g ≡ Less
        inside f g a b lt = equal_then (name_cmp (name_in f) (name_in g)) (folds.fault_cmp f g) (same_name p l of.0 f g ((mine.members f).0 a) ((mine.members g).0 b)) lt

        below : (f g : PartitionFault) → Has here f → Has others g → partition_cmp f g ≡ Less
        below f g a b = less_then (name_cmp (name_in f) (name_in g)) (folds.fault_cmp f g)
            (ap (λ n. name_cmp n (name_in g)) (of_partition p l of.0 f ((mine.members f).0 a)) ∙ later p.end ps ls of.1 (sorted_head end_cmp p.end (ends_of ps) up) g ((rest.members g).0 b))

        there : (f : PartitionFault) → Has (here ++ others) f → Here p l of.0 f ⊎ StandsInPartitions ps ls of.1 f
        there f k = elim (append_cases here others f k) [ inl a ↦ inl ((mine.members f).0 a) | inr b ↦ inr ((rest.members f).0 b) ]

        back : (f : PartitionFault) → Here p l of.0 f ⊎ StandsInPartitions ps ls of.1 f → Has (here ++ others) f
        back f (inl s) = append_left here others f ((mine.members f).1 s)
        back f (inr s) = append_right here others f ((rest.members f).1 s)
