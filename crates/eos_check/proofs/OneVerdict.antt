-- Two verdicts of one evidence are equal: the logs are the same, and each phase has one least fault.
use Rattle.std.proofs.Common.{◌≡◌, true, false, List, sym, ap, subst, ◌∙◌}
use Rattle.eos_base.specs.Least.{IsLeast}
use Rattle.eos_base.proofs.LeastOf.{one_least}
use Rattle.eos_evidence.specs.Evidence.{EvidenceParts, IsEvidence}
use Rattle.eos_touch.specs.declared.fault.PartitionFault.{PartitionFault}
use Rattle.eos_fold.specs.Parts.{PartLog}
use Rattle.eos_table.proofs.LogOrder.{log_total, log_exact}
use Rattle.eos_table.proofs.MatchOrder.{fault_total, fault_exact}
use Rattle.eos_lineage.proofs.LineageLaw.{unique}
use Rattle.eos_verdict.specs.declared.verdict.Counts.{Counts}
use Rattle.eos_verdict.specs.declared.verdict.Fault.{Fault}
use Rattle.eos_verdict.specs.declared.verdict.Fault.TheVariants.{Partition as InPartition, Log, Match, Lineage}
use Rattle.eos_verdict.specs.declared.verdict.Verdict.{Verdict}
use Rattle.eos_verdict.specs.declared.verdict.Verdict.TheVariants.{Yes, No}
use Rattle.eos_commits.specs.EvidenceLogs.{AreLogsOf}
use Rattle.eos_check.specs.Verdicts.{StandsInPartitions, StandsInLog, StandsInMatching, Stands, partition_cmp, verdict_cmp, AreCounts, IsVerdictOf, IsVerdict}
use Rattle.eos_check.proofs.GoodLaw.{law}
use Rattle.eos_commits.proofs.LogsInOrder.{sorted}
use Rattle.eos_check.proofs.LogsUnique.{one_logs}
use Rattle.eos_check.proofs.VerdictsUnique.{same_standing, one_partition_fault}

gt : true ≡ false → ⊥
gt e = cc

module _ (e : EvidenceParts) (is : IsEvidence e) where
  -- ---- how the logs are read makes no difference

  move : (ls : List PartLog) (of are : AreLogsOf e.partitions ls) (f : Fault) → Stands e ls of f → Stands e ls are f
  move ls of are (InPartition f) s = same_standing e.partitions ls ls of are f s
  move ls of are (Log f) s = (λ g t. s.0 g (same_standing e.partitions ls ls are of g t), s.1)
  move ls of are (Match f) s = (λ g t. s.0 g (same_standing e.partitions ls ls are of g t), s.1, s.2)
  move ls of are (Lineage f) s = (λ g t. s.0 g (same_standing e.partitions ls ls are of g t), s.1, s.2, s.3)

  moved : (ls : List PartLog) (of are : AreLogsOf e.partitions ls) (w : Verdict) → IsVerdictOf e ls are w → IsVerdictOf e ls of w
  moved ls of are (Yes c) h = h
  moved ls of are (No f) h = record { stands = move ls are of f h.stands; least = λ g s. h.least g (move ls of are g s) }

  same_logs : (ls ms : List PartLog) → ls ≡ ms → (of : AreLogsOf e.partitions ls) (are : AreLogsOf e.partitions ms) (w : Verdict) → IsVerdictOf e ms are w → IsVerdictOf e ls of w
  same_logs ls ms p of are w h =
      subst (λ (xs : List PartLog). (are : AreLogsOf e.partitions xs) → IsVerdictOf e xs are w → IsVerdictOf e ls of w) p (λ are h. moved ls of are w h) are h

  -- ---- of the same logs

  module _ (ls : List PartLog) (of : AreLogsOf e.partitions ls) where
    abbrev Least : Fault → Type 0
    Least = IsLeast (verdict_cmp e.spec.apps) (Stands e ls of)

    in_partitions : (f : PartitionFault) → Least (InPartition f) → IsLeast partition_cmp (StandsInPartitions e.partitions ls of) f
    in_partitions f m = record { stands = m.stands; least = λ g s. m.least (InPartition g) s }

    one_fault : (f g : Fault) → Least f → Least g → f ≡ g
    one_fault (InPartition f) (InPartition g) m n = ap InPartition (one_partition_fault e.partitions ls of (sorted e is) f g (in_partitions f m) (in_partitions g n))
    one_fault (InPartition f) (Log g) m n = absurd (gt (n.least (InPartition f) m.stands))
    one_fault (InPartition f) (Match g) m n = absurd (gt (n.least (InPartition f) m.stands))
    one_fault (InPartition f) (Lineage g) m n = absurd (gt (n.least (InPartition f) m.stands))
    one_fault (Log f) (InPartition g) m n = absurd (gt (m.least (InPartition g) n.stands))
    one_fault (Log f) (Log g) m n = ap Log (one_least log_total log_exact (StandsInLog ls) f g
        (record { stands = m.stands.1; least = λ h s. m.least (Log h) (m.stands.0, s) }) (record { stands = n.stands.1; least = λ h s. n.least (Log h) (m.stands.0, s) }))
    one_fault (Log f) (Match g) m n = absurd (gt (n.least (Log f) m.stands))
    one_fault (Log f) (Lineage g) m n = absurd (gt (n.least (Log f) m.stands))
    one_fault (Match f) (InPartition g) m n = absurd (gt (m.least (InPartition g) n.stands))
    one_fault (Match f) (Log g) m n = absurd (gt (m.least (Log g) n.stands))
    one_fault (Match f) (Match g) m n = ap Match (one_least fault_total fault_exact (StandsInMatching ls) f g
        (record { stands = m.stands.2; least = λ h s. m.least (Match h) (m.stands.0, m.stands.1, s) })
        (record { stands = n.stands.2; least = λ h s. n.least (Match h) (m.stands.0, m.stands.1, s) }))
    one_fault (Match f) (Lineage g) m n = absurd (gt (n.least (Match f) m.stands))
    one_fault (Lineage f) (InPartition g) m n = absurd (gt (m.least (InPartition g) n.stands))
    one_fault (Lineage f) (Log g) m n = absurd (gt (m.least (Log g) n.stands))
    one_fault (Lineage f) (Match g) m n = absurd (gt (m.least (Match g) n.stands))
    one_fault (Lineage f) (Lineage g) m n = ap Lineage (unique e.spec.apps ls f g
        (record { stands = m.stands.3; least = λ h s. m.least (Lineage h) (m.stands.0, m.stands.1, m.stands.2, s) })
        (record { stands = n.stands.3; least = λ h s. n.least (Lineage h) (m.stands.0, m.stands.1, m.stands.2, s) }))

    one_count : (c d : Counts) → AreCounts e.spec.apps ls c → AreCounts e.spec.apps ls d → c ≡ d
    one_count c d h k =
        let transactions = h.transactions ∙ sym k.transactions in
        let inputs = h.inputs ∙ sym k.inputs in
        let outputs = h.outputs ∙ sym k.outputs in
        λ i. record { transactions = transactions i; inputs = inputs i; outputs = outputs i }

    one_of : (v w : Verdict) → IsVerdictOf e ls of v → IsVerdictOf e ls of w → v ≡ w
    one_of (Yes c) (Yes d) h k = ap Yes (one_count c d h.1 k.1)
    one_of (Yes c) (No g) h k = absurd ((law e ls of is).0 h.0 g k.stands)
    one_of (No f) (Yes d) h k = absurd ((law e ls of is).0 k.0 f h.stands)
    one_of (No f) (No g) h k = ap No (one_fault f g h k)

  -- ---- of any

  one_verdict_of : (ls ms : List PartLog) (of : AreLogsOf e.partitions ls) (are : AreLogsOf e.partitions ms) (v w : Verdict) → IsVerdictOf e ls of v → IsVerdictOf e ms are w → v ≡ w
  one_verdict_of ls ms of are v w h k = one_of ls of v w h (same_logs ls ms (one_logs e.partitions ls ms of are) of are w k)

  pub one_verdict : (v w : Verdict) → IsVerdict e v → IsVerdict e w → v ≡ w
  one_verdict v w h k = one_verdict_of h.0 k.0 h.1 k.1 v w h.2 k.2
