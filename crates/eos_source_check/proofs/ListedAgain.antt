-- The list over kept logs is that of each evidence of whose logs they are kept, and which has the partitions as they were read
-- again.
use Rattle.std.proofs.Common.{◌≡◌, ℕ, ◌+◌, List, [], ◌∷◌, map, length, Option, Some, None, refl, sym, ap, subst, ◌∙◌}
use Rattle.std.specs.List.Sorted.{IsStrictlySortedBy}
use Rattle.eos_base.specs.Least.{NoneStands}
use Rattle.eos_evidence.specs.declared.ends.End.{End}
use Rattle.eos_evidence.specs.declared.partition.Partition.{Partition}
use Rattle.eos_evidence.specs.Evidence.{EvidenceParts, IsEvidence}
use Rattle.eos_evidence.specs.SpecFields.{SpecFields}
use Rattle.eos_touch.specs.declared.fault.PartitionFault.{PartitionFault}
use Rattle.eos_fold.specs.LeastFaults.{IsFaultIn, IsFirstFault}
use Rattle.eos_fold.specs.Parts.{PartLog}
use Rattle.eos_kept.specs.declared.logs.Logs.{Logs}
use Rattle.eos_kept.specs.Faults as named
use Rattle.eos_commits.proofs.LogsInOrder.{sorted, in_order}
use Rattle.eos_commits.specs.Faults.{AreInOrder}
use Rattle.eos_verdict.specs.declared.verdict.Fault.{Fault}
use Rattle.eos_verdict.specs.declared.verdict.Fault.TheVariants.{Partition as InPartition}
use Rattle.eos_check.specs.Verdicts.{StandsInPartitions, partition_cmp}
use Rattle.eos_check.proofs.NamedFaults.{first_named}
use Rattle.eos_base.specs.AllOf.{IsAllOf}
use Rattle.eos_faults.specs.PartitionLists.{AreFaultsOf}
use Rattle.eos_reading.specs.Wanted.{wanted_logs}
use Rattle.eos_check.proofs.KeptOrder.{all_kept}
use Rattle.eos_source_check.specs.AllFaults.{AreAllFaults}
use Rattle.eos_source_check.specs.LaterFaults.{AreLaterFaults}
use Rattle.eos_source_check.specs.steps.InPartitions as lists
use Rattle.eos_source_check.proofs.AllPhases.{found_in_partitions, none_in_partitions}
use Rattle.eos_source_check.proofs.LaterAlike.{kept_later}
use Rattle.eos_source_check.proofs.PartitionsListed.{listed}
use Rattle.eos_source.specs.Said.{Known}
use Rattle.eos_source_check.specs.Again.{AreAgain, AreThere}
use Rattle.eos_source_check.specs.Listed.{IsListOf}
use Rattle.eos_source_check.specs.steps.FaultsAgain.{AreFaultsAgain, AreListedAgain}

-- ---- the partitions by themselves

are_again : (known : ℕ → Known) (piece : ℕ) (shapes : List Partition) (found : List (Option PartitionFault)) (again : List (Option Partition)) (list : List PartitionFault)
    → AreFaultsAgain known piece shapes found again list → AreAgain known piece shapes again
are_again known piece [] found [] list h = tt
are_again known piece [] found (one ∷ more) list h = absurd h
are_again known piece (shape ∷ shapes) found [] list h = absurd h
are_again known piece (shape ∷ shapes) [] (None ∷ more) list h = are_again known (piece + length shape.segments) shapes [] more list h
are_again known piece (shape ∷ shapes) [] (Some p ∷ more) list h = absurd h
are_again known piece (shape ∷ shapes) (None ∷ found) (None ∷ more) list h = are_again known (piece + length shape.segments) shapes found more list h
are_again known piece (shape ∷ shapes) (None ∷ found) (Some p ∷ more) list h = absurd h
are_again known piece (shape ∷ shapes) (Some f ∷ found) (None ∷ more) list h = absurd h
are_again known piece (shape ∷ shapes) (Some f ∷ found) (Some p ∷ more) list h = (h.3, are_again known (piece + length shape.segments) shapes found more h.1 h.5)

-- a partition in which nothing was found has no fault
none_of : (p : Partition) → IsFaultIn p.end.topic p.end.partition p.end.end p.segments None → AreFaultsOf p []
unfolding IsStrictlySortedBy
none_of p h = record { batches = h.batches; stop = h.stop; front = h.front; faults = record { rises = tt; members = λ f. (λ has. absurd has, λ s. h.least f s) } }

abbrev ends : List Partition → List End
ends ps = map (λ p. p.end) ps

apart : (p : Partition) (ps : List Partition) → ends [] ≡ ends (p ∷ ps) → ⊥
apart p ps e = cc

apart_too : (p : Partition) (ps : List Partition) → ends (p ∷ ps) ≡ ends [] → ⊥
apart_too p ps e = cc

behind : (p q : Partition) (ps qs : List Partition) → ends (p ∷ ps) ≡ ends (q ∷ qs) → ends ps ≡ ends qs
behind p q ps qs e = cc

faults_of : (known : ℕ → Known) (piece : ℕ) (shapes ps : List Partition) (found : List (Option PartitionFault)) (again : List (Option Partition)) (list : List PartitionFault) → ends ps ≡ ends shapes
    → AreFaultsAgain known piece shapes found again list → named.AreFaultsIn ps found → AreThere again ps → lists.AreFaultsIn ps list
faults_of known piece [] [] found [] list e h n t = h
faults_of known piece [] [] found (one ∷ more) list e h n t = absurd h
faults_of known piece [] (p ∷ ps) found again list e h n t = absurd (apart_too p ps e)
faults_of known piece (shape ∷ shapes) [] found again list e h n t = absurd (apart shape shapes e)
faults_of known piece (shape ∷ shapes) (p ∷ ps) found [] list e h n t = absurd h
faults_of known piece (shape ∷ shapes) (p ∷ ps) [] (one ∷ more) list e h n t = absurd n
faults_of known piece (shape ∷ shapes) (p ∷ ps) (None ∷ found) (Some q ∷ more) list e h n t = absurd h
faults_of known piece (shape ∷ shapes) (p ∷ ps) (Some f ∷ found) (None ∷ more) list e h n t = absurd h
faults_of known piece (shape ∷ shapes) (p ∷ ps) (None ∷ found) (None ∷ more) list e h n t =
    ([], list, none_of p n.0, refl, faults_of known (piece + length shape.segments) shapes ps found more list (behind p shape ps shapes e) h n.1 t)
faults_of known piece (shape ∷ shapes) (p ∷ ps) (Some f ∷ found) (Some q ∷ more) list e h n t =
    let mine : AreFaultsOf p h.0 = subst (λ (x : Partition). AreFaultsOf x h.0) (sym t.0) h.4 in
    (h.0, h.1, mine, h.2, faults_of known (piece + length shape.segments) shapes ps found more h.1 (behind p shape ps shapes e) h.5 n.1 t.1)

same_ends : (shape e : EvidenceParts) → IsEvidence shape → IsEvidence e → e.spec ≡ shape.spec → ends e.partitions ≡ ends shape.partitions
same_ends shape e is_shape is spec = is.ends ∙ (ap (λ (s : SpecFields). s.ends) spec ∙ sym is_shape.ends)

-- ---- all faults

pub partitions_listed : (known : ℕ → Known) (shape : EvidenceParts) (logs : Logs) (f : PartitionFault) (list : List PartitionFault) (all : List Fault) → IsEvidence shape
    → named.first_of logs.faults.items ≡ Some f → AreListedAgain known shape.partitions logs.faults.items list → all ≡ map InPartition list → IsListOf known shape logs all
partitions_listed known shape logs f list all is_shape found h is_all = record {
  again = h.again;
  read = are_again known 0 shape.partitions logs.faults.items h.again list h.faults;
  are = λ e is spec kept there.
      let first : IsFirstFault kept.whole (Some f) = subst (IsFirstFault kept.whole) found (first_named e.partitions kept.whole kept.of logs.faults.items kept.faults) in
      let each : lists.AreFaultsIn e.partitions list = faults_of known 0 shape.partitions e.partitions logs.faults.items h.again list (same_ends shape e is_shape is spec) h.faults kept.faults there in
      let standing : IsAllOf partition_cmp (StandsInPartitions e.partitions kept.whole kept.of) list = listed e.partitions kept.whole kept.of (sorted e is) list each in
      subst (AreAllFaults e kept.whole kept.of) (sym is_all) (found_in_partitions e kept.whole kept.of is f first list standing);
}

pub later_listed : (known : ℕ → Known) (shape : EvidenceParts) (logs : Logs) (list : List Fault) → named.first_of logs.faults.items ≡ None
    → (AreInOrder logs.parts.items → AreLaterFaults shape.spec.apps logs.parts.items list) → IsListOf known shape logs list
later_listed known shape logs list found h = record {
  again = [];
  read = tt;
  are = λ e is spec kept there.
      let first : IsFirstFault kept.whole None = subst (IsFirstFault kept.whole) found (first_named e.partitions kept.whole kept.of logs.faults.items kept.faults) in
      let none : NoneStands (StandsInPartitions e.partitions kept.whole kept.of) = none_in_partitions e kept.whole kept.of is first in
      let order : AreInOrder logs.parts.items = subst AreInOrder (sym kept.parts) ((all_kept e.spec.apps kept.whole).1 (in_order e kept.whole is kept.of)) in
      let over_parts : AreLaterFaults e.spec.apps logs.parts.items list = subst (λ (s : SpecFields). AreLaterFaults s.apps logs.parts.items list) (sym spec) (h order) in
      let over_kept : AreLaterFaults e.spec.apps (wanted_logs e.spec.apps kept.whole) list = subst (λ (ls : List PartLog). AreLaterFaults e.spec.apps ls list) kept.parts over_parts in
      (kept_later e kept.whole kept.of none list).0 over_kept;
}
