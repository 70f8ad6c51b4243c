-- The first of the faults that were named of an evidence's partitions is that of its logs.
use Rattle.std.proofs.Common.{ℕ, ℤ, List, [], ◌∷◌, Option, Some, None, sym, subst, inl, inr}
use Rattle.eos_evidence.specs.declared.partition.Partition.{Partition}
use Rattle.eos_evidence.specs.declared.segment.Segment.{Segment}
use Rattle.eos_fold.specs.LeastFaults.{IsFaultIn, IsFaultOf, IsFirstFault}
use Rattle.eos_fold.specs.Parts.{PartLog}
use Rattle.eos_commits.specs.EvidenceLogs.{IsLogOf, AreLogsOf}
use Rattle.eos_kept.specs.Faults.{AreFaultsIn, first_of}
use Rattle.eos_touch.specs.declared.fault.PartitionFault.{PartitionFault}

-- a log's fault is its partition's
pub fault_of : (p : Partition) (l : PartLog) → IsLogOf p l → (f : Option PartitionFault) → IsFaultIn p.end.topic p.end.partition p.end.end p.segments f → IsFaultOf l f
fault_of p l of f h =
    let topic = subst (λ (t : List ℕ). IsFaultIn t p.end.partition p.end.end p.segments f) (sym of.log.of_topic) h in
    let number = subst (λ (n : ℤ). IsFaultIn l.topic n p.end.end p.segments f) (sym of.log.of_number) topic in
    let end = subst (λ (z : ℤ). IsFaultIn l.topic l.number z p.segments f) (sym of.log.until) number in
    subst (λ (ss : List Segment). IsFaultIn l.topic l.number l.end ss f) (sym of.log.of_segments) end

behind : (l : PartLog) (ls : List PartLog) (f : Option PartitionFault) → IsFaultOf l None → IsFirstFault ls f → IsFirstFault (l ∷ ls) f
behind l ls None here others = (here, others)
behind l ls (Some f) here others = inr (here, others)

pub first_named : (ps : List Partition) (ls : List PartLog) → AreLogsOf ps ls → (fs : List (Option PartitionFault)) → AreFaultsIn ps fs → IsFirstFault ls (first_of fs)
first_named [] [] of [] h = tt
first_named [] [] of (f ∷ fs) h = absurd h
first_named [] (l ∷ ls) of fs h = absurd of
first_named (p ∷ ps) [] of fs h = absurd of
first_named (p ∷ ps) (l ∷ ls) of [] h = absurd h
first_named (p ∷ ps) (l ∷ ls) of (None ∷ fs) h = behind l ls (first_of fs) (fault_of p l of.0 None h.0) (first_named ps ls of.1 fs h.1)
first_named (p ∷ ps) (l ∷ ls) of (Some f ∷ fs) h = inl (fault_of p l of.0 (Some f) h.0)
