-- The phases one after the other: what was found is the list of all, or nothing stands.
use Rattle.std.proofs.Common.{◌≡◌, ◌==◌, ℕ, List, [], ◌∷◌, map, length, Option, Some, None, true, false, refl, subst, inl, arith, ◌⊎◌}
use Rattle.std.specs.declared.cmp.Ordering.{Ordering}
use Rattle.eos_base.specs.Members.{Has}
use Rattle.eos_base.specs.Least.{NoneStands}
use Rattle.eos_base.proofs.Membership.{map_has, has_map}
use Rattle.eos_evidence.specs.declared.application.App.{App}
use Rattle.eos_evidence.specs.Evidence.{EvidenceParts, IsEvidence}
use Rattle.eos_touch.specs.declared.fault.PartitionFault.{PartitionFault}
use Rattle.eos_fold.specs.LeastFaults.{IsFirstFault}
use Rattle.eos_fold.specs.Parts.{PartLog}
use Rattle.eos_verdict.specs.declared.log_fault.LogFault.{LogFault}
use Rattle.eos_verdict.specs.declared.match_fault.MatchFault.{MatchFault}
use Rattle.eos_table.specs.LogFaults.{log_cmp}
use Rattle.eos_table.specs.MatchFaults.{fault_cmp}
use Rattle.eos_claims.specs.declared.fault.OutputFault.{OutputFault}
use Rattle.eos_verdict.specs.declared.visible_fault.VisibleFault.{VisibleFault}
use Rattle.eos_commits.specs.Commits.{Group}
use Rattle.eos_commits.specs.Faults as records
use Rattle.eos_verdict.specs.declared.lineage_fault.LineageFault.{LineageFault}
use Rattle.eos_verdict.specs.declared.lineage_fault.LineageFault.TheVariants.{Record, Output}
use Rattle.eos_lineage.specs.Faults as lineage
use Rattle.eos_commits.specs.EvidenceLogs.{AreLogsOf}
use Rattle.eos_commits.proofs.LogsInOrder.{sorted}
use Rattle.eos_verdict.specs.declared.verdict.Fault.TheVariants.{Partition as InPartition, Log, Match}
use Rattle.eos_check.specs.Verdicts.{StandsInPartitions, StandsInLog, StandsInMatching, partition_cmp}
use Rattle.eos_check.proofs.FirstFault.{least_of_first}
use Rattle.eos_base.specs.AllOf.{IsAllOf}
use Rattle.eos_base.proofs.WholeList.{none_listed, plain_rises}
use Rattle.eos_faults.specs.LineageFaults.{IsLaterOf, AreLineageFaults}
use Rattle.eos_source_check.specs.AllFaults.{AreAllFaults}
use Rattle.eos_source_check.specs.LaterFaults.{AreLaterFaults}
use Rattle.eos_source_check.proofs.PhaseLists.{partition_list, log_list, match_list}

-- ---- an empty list

is_zero : (n : ℕ) → (n == 0) ≡ true → n ≡ 0
is_zero n e = grind (arith)

not_zero : (n : ℕ) → n ≡ 0 → (n == 0) ≡ false → ⊥
not_zero n z e = let bad = subst (λ (m : ℕ). (m == 0) ≡ false) z e in absurd cc

is_empty : {X : Type 0} (xs : List X) (n : ℕ) → n ≡ length xs → (n == 0) ≡ true → xs ≡ []
is_empty [] n len e = refl
is_empty (x ∷ xs) n len e = let zero = is_zero n e in absurd (omega (arith, len, zero))

-- none stands where the list is empty
pub none_there : {X : Type 0} {cmp : X → X → Ordering} (Stands : X → Type 0) (xs : List X) (n : ℕ) → n ≡ length xs → (n == 0) ≡ true → IsAllOf cmp Stands xs → NoneStands Stands
none_there {cmp = cmp} Stands xs n len e all = none_listed cmp Stands (subst (IsAllOf cmp Stands) (is_empty xs n len e) all)

-- ---- the phases

module _ (apps : List App) (ls : List PartLog) where
  pub found_in_log : (xs : List LogFault) (n : ℕ) → n ≡ length xs → (n == 0) ≡ false → IsAllOf log_cmp (StandsInLog ls) xs → AreLaterFaults apps ls (map Log xs)
  found_in_log [] n len t all = absurd (not_zero n len t)
  found_in_log (x ∷ xs) n len t all = log_list apps ls x xs all

  pub found_in_matching : NoneStands (StandsInLog ls) → (xs : List MatchFault) (n : ℕ) → n ≡ length xs → (n == 0) ≡ false → IsAllOf fault_cmp (StandsInMatching ls) xs
      → AreLaterFaults apps ls (map Match xs)
  found_in_matching no_log [] n len t all = absurd (not_zero n len t)
  found_in_matching no_log (x ∷ xs) n len t all = match_list apps ls x xs no_log all

module _ (e : EvidenceParts) (ls : List PartLog) (of : AreLogsOf e.partitions ls) (is : IsEvidence e) where
  pub found_in_partitions : (f : PartitionFault) → IsFirstFault ls (Some f) → (xs : List PartitionFault) → IsAllOf partition_cmp (StandsInPartitions e.partitions ls of) xs → AreAllFaults e ls of (map InPartition xs)
  found_in_partitions f first [] all = absurd (none_listed partition_cmp (StandsInPartitions e.partitions ls of) all f (least_of_first e.partitions ls of (sorted e is) (Some f) first).stands)
  found_in_partitions f first (x ∷ xs) all = partition_list e ls of x xs all

  pub none_in_partitions : IsFirstFault ls None → NoneStands (StandsInPartitions e.partitions ls of)
  none_in_partitions first = least_of_first e.partitions ls of (sorted e is) None first

-- ---- those of records, where one stands

module _ (apps : List App) (ls : List PartLog) where
  listed : (x : VisibleFault) (xs : List VisibleFault) → IsAllOf records.visible_cmp (records.Stands apps ls) (x ∷ xs) → AreLineageFaults apps ls (map Record (x ∷ xs))
  listed x xs all = record {
    rises = plain_rises Record (lineage.lineage_cmp apps) (x ∷ xs) all.rises;
    each = λ f h. let r = map_has Record (x ∷ xs) f h in subst (lineage.Stands apps ls) r.2 ((all.members r.0).0 r.1);
    all = here;
    one_missing = λ group f g h k one. let r = map_has Record (x ∷ xs) (Output group f) h in absurd (apart r.0 group f r.2);
  }
    where
      apart : (y : VisibleFault) (group : Option Group) (f : OutputFault) → Record y ≡ Output group f → ⊥
      apart y group f e = cc

      first : records.Stands apps ls x
      first = (all.members x).0 (inl refl)

      here : (f : LineageFault) → lineage.Stands apps ls f → Has (map Record (x ∷ xs)) f ⊎ IsLaterOf (map Record (x ∷ xs)) f
      here (Record f) s = inl (has_map Record (x ∷ xs) f ((all.members f).1 s))
      here (Output group f) s = absurd (s.0 x first)

  pub found_in_records : (xs : List VisibleFault) (n : ℕ) → n ≡ length xs → (n == 0) ≡ false → IsAllOf records.visible_cmp (records.Stands apps ls) xs → AreLineageFaults apps ls (map Record xs)
  found_in_records [] n len t all = absurd (not_zero n len t)
  found_in_records (x ∷ xs) n len t all = listed x xs all
