-- The list of the first phase that has a fault is that of all; so is that of the last, also where it is empty.
use Rattle.std.proofs.Common.{◌≡◌, List, ◌∷◌, map, refl, subst, inl, inr, ◌⊎◌}
use Rattle.eos_base.specs.Members.{Has}
use Rattle.eos_base.specs.Least.{NoneStands}
use Rattle.eos_base.proofs.Membership.{map_has, has_map}
use Rattle.eos_evidence.specs.declared.application.App.{App}
use Rattle.eos_evidence.specs.Evidence.{EvidenceParts}
use Rattle.eos_touch.specs.declared.fault.PartitionFault.{PartitionFault}
use Rattle.eos_fold.specs.Parts.{PartLog}
use Rattle.eos_verdict.specs.declared.log_fault.LogFault.{LogFault}
use Rattle.eos_verdict.specs.declared.match_fault.MatchFault.{MatchFault}
use Rattle.eos_table.specs.LogFaults.{log_cmp}
use Rattle.eos_table.specs.MatchFaults.{fault_cmp}
use Rattle.eos_verdict.specs.declared.lineage_fault.LineageFault.{LineageFault}
use Rattle.eos_verdict.specs.declared.lineage_fault.LineageFault.TheVariants.{Record, Output}
use Rattle.eos_commits.specs.EvidenceLogs.{AreLogsOf}
use Rattle.eos_verdict.specs.declared.verdict.Fault.{Fault}
use Rattle.eos_verdict.specs.declared.verdict.Fault.TheVariants.{Partition as InPartition, Log, Match, Lineage}
use Rattle.eos_check.specs.Verdicts.{StandsInPartitions, StandsInLog, StandsInMatching, Stands, partition_cmp, verdict_cmp}
use Rattle.eos_base.specs.AllOf.{IsAllOf}
use Rattle.eos_base.proofs.WholeList.{plain_rises}
use Rattle.eos_faults.specs.LineageFaults.{IsLaterOf, AreLineageFaults}
use Rattle.eos_source_check.specs.AllFaults.{IsLaterMissing, AreAllFaults}
use Rattle.eos_source_check.specs.LaterFaults.{StandsLater, AreLaterFaults}

-- the phases are told apart
in_partition : (f : PartitionFault) (g : LineageFault) → InPartition f ≡ Lineage g → ⊥
in_partition f g e = cc

in_log : (f : LogFault) (g : LineageFault) → Log f ≡ Lineage g → ⊥
in_log f g e = cc

in_matching : (f : MatchFault) (g : LineageFault) → Match f ≡ Lineage g → ⊥
in_matching f g e = cc

inside : (f g : LineageFault) → Lineage f ≡ Lineage g → f ≡ g
inside f g e = cc

module _ (e : EvidenceParts) (ls : List PartLog) (of : AreLogsOf e.partitions ls) where
  pub partition_list : (x : PartitionFault) (xs : List PartitionFault) → IsAllOf partition_cmp (StandsInPartitions e.partitions ls of) (x ∷ xs) → AreAllFaults e ls of (map InPartition (x ∷ xs))
  partition_list x xs all = record {
    rises = plain_rises InPartition (verdict_cmp e.spec.apps) (x ∷ xs) all.rises;
    each = λ f h. let r = map_has InPartition (x ∷ xs) f h in subst (Stands e ls of) r.2 ((all.members r.0).0 r.1);
    all = here;
    one_missing = λ group f g h k one. let r = map_has InPartition (x ∷ xs) _ h in absurd (in_partition r.0 _ r.2);
  }
    where
      first : StandsInPartitions e.partitions ls of x
      first = (all.members x).0 (inl refl)

      here : (f : Fault) → Stands e ls of f → Has (map InPartition (x ∷ xs)) f ⊎ IsLaterMissing (map InPartition (x ∷ xs)) f
      here (InPartition f) s = inl (has_map InPartition (x ∷ xs) f ((all.members f).1 s))
      here (Log f) s = absurd (s.0 x first)
      here (Match f) s = absurd (s.0 x first)
      here (Lineage f) s = absurd (s.0 x first)

module _ (apps : List App) (ls : List PartLog) where
  pub log_list : (x : LogFault) (xs : List LogFault) → IsAllOf log_cmp (StandsInLog ls) (x ∷ xs) → AreLaterFaults apps ls (map Log (x ∷ xs))
  log_list x xs all = record {
    rises = plain_rises Log (verdict_cmp apps) (x ∷ xs) all.rises;
    each = λ f h. let r = map_has Log (x ∷ xs) f h in subst (StandsLater apps ls) r.2 ((all.members r.0).0 r.1);
    all = here;
    one_missing = λ group f g h k one. let r = map_has Log (x ∷ xs) _ h in absurd (in_log r.0 _ r.2);
  }
    where
      first : StandsInLog ls x
      first = (all.members x).0 (inl refl)

      here : (f : Fault) → StandsLater apps ls f → Has (map Log (x ∷ xs)) f ⊎ IsLaterMissing (map Log (x ∷ xs)) f
      here (InPartition f) s = absurd s
      here (Log f) s = inl (has_map Log (x ∷ xs) f ((all.members f).1 s))
      here (Match f) s = absurd (s.0 x first)
      here (Lineage f) s = absurd (s.0 x first)

  pub match_list : (x : MatchFault) (xs : List MatchFault) → NoneStands (StandsInLog ls) → IsAllOf fault_cmp (StandsInMatching ls) (x ∷ xs) → AreLaterFaults apps ls (map Match (x ∷ xs))
  match_list x xs no_log all = record {
    rises = plain_rises Match (verdict_cmp apps) (x ∷ xs) all.rises;
    each = λ f h. let r = map_has Match (x ∷ xs) f h in subst (StandsLater apps ls) r.2 (no_log, (all.members r.0).0 r.1);
    all = here;
    one_missing = λ group f g h k one. let r = map_has Match (x ∷ xs) _ h in absurd (in_matching r.0 _ r.2);
  }
    where
      first : StandsInMatching ls x
      first = (all.members x).0 (inl refl)

      here : (f : Fault) → StandsLater apps ls f → Has (map Match (x ∷ xs)) f ⊎ IsLaterMissing (map Match (x ∷ xs)) f
      here (InPartition f) s = absurd s
      here (Log f) s = absurd (no_log f s)
      here (Match f) s = inl (has_map Match (x ∷ xs) f ((all.members f).1 s.1))
      here (Lineage f) s = absurd (s.1 x first)

  pub lineage_list : (xs : List LineageFault) → NoneStands (StandsInLog ls) → NoneStands (StandsInMatching ls) → AreLineageFaults apps ls xs → AreLaterFaults apps ls (map Lineage xs)
  lineage_list xs no_log no_match all = record {
    rises = plain_rises Lineage (verdict_cmp apps) xs all.rises;
    each = λ f h. let r = map_has Lineage xs f h in subst (StandsLater apps ls) r.2 (no_log, no_match, all.each r.0 r.1);
    all = here;
    one_missing = λ group f g h k one. all.one_missing group f g (back (Output group f) h) (back (Output group g) k) one;
  }
    where
      back : (f : LineageFault) → Has (map Lineage xs) (Lineage f) → Has xs f
      back f h = let r = map_has Lineage xs (Lineage f) h in subst (Has xs) (inside r.0 f r.2) r.1

      told : (f : LineageFault) → Has xs f ⊎ IsLaterOf xs f → Has (map Lineage xs) (Lineage f) ⊎ IsLaterMissing (map Lineage xs) (Lineage f)
      told f (inl h) = inl (has_map Lineage xs f h)
      told (Record f) (inr later) = absurd later
      told (Output group f) (inr later) = inr (later.0, has_map Lineage xs (Output group later.0) later.1, later.2, later.3)

      here : (f : Fault) → StandsLater apps ls f → Has (map Lineage xs) f ⊎ IsLaterMissing (map Lineage xs) f
      here (InPartition f) s = absurd s
      here (Log f) s = absurd (no_log f s)
      here (Match f) s = absurd (no_match f s.1)
      here (Lineage f) s = told f (all.all f s.2)
