-- What is kept of partitions that are held in memory, one after the other; and the verdict that is judged of all of it.
use Rattle.std.proofs.Common.{◌≡◌, ℕ, zero, suc, ◌+◌, ◌<◌, List, [], ◌∷◌, ◌++◌, length, take, get_or, Option, sym, ap, subst, ◌∙◌, arith}
use Rattle.std.specs.List.{AllByRecursion}
use Rattle.std.proofs.Math.Seq.{take-suc}
use Rattle.std.proofs.lemmas.List.{map-append}
use Rattle.eos_evidence.specs.declared.application.App.{App}
use Rattle.eos_evidence.specs.declared.partition.Partition.{Partition}
use Rattle.eos_evidence.specs.Evidence.{EvidenceParts, IsEvidence, IsPartition}
use Rattle.eos_touch.specs.declared.fault.PartitionFault.{PartitionFault}
use Rattle.eos_fold.specs.Parts.{PartLog}
use Rattle.eos_commits.specs.EvidenceLogs.{IsLogOf, AreLogsOf}
use Rattle.eos_kept.specs.declared.part.Told.{Told}
use Rattle.eos_kept.specs.Faults.{first_of}
use Rattle.eos_kept.specs.Parts.{IsTold}
use Rattle.eos_reading.specs.declared.wanted.Wanted.{Wanted}
use Rattle.eos_reading.specs.Wanted.{wanted_log, wanted_of, kept_log, wanted_logs}
use Rattle.eos_verdict.specs.declared.verdict.Verdict.{Verdict}
use Rattle.eos_check.specs.Judged.{IsJudged}
use Rattle.eos_check.specs.Verdicts.{IsVerdict}
use Rattle.eos_check.specs.KeptLogs.{AreKeptOf}
use Rattle.eos_check.proofs.KeptAnswers as kept
use Rattle.eos_check.proofs.NamedFaults.{faults_push}

pub is_in_list : (ps : List Partition) (i : ℕ) (p : Partition) → AllByRecursion IsPartition ps → i < length ps → p ≡ get_or ps i p → IsPartition p
is_in_list [] i p h l e = absurd (omega (arith, l))
is_in_list (q ∷ ps) zero p h l e = subst IsPartition (sym e) h.0
is_in_list (q ∷ ps) (suc i) p h l e = is_in_list ps i p h.1 (omega (arith, l)) e

-- ---- one partition more

logs_push : (ps : List Partition) (ls : List PartLog) (p : Partition) (l : PartLog) → AreLogsOf ps ls → IsLogOf p l → AreLogsOf (ps ++ p ∷ []) (ls ++ l ∷ [])
logs_push [] [] p l h k = (k, tt)
logs_push [] (m ∷ ls) p l h k = absurd h
logs_push (q ∷ ps) [] p l h k = absurd h
logs_push (q ∷ ps) (m ∷ ls) p l h k = (h.0, logs_push ps ls p l h.1 k)

take_next : (ps : List Partition) (i : ℕ) (p : Partition) → i < length ps → p ≡ get_or ps i p → take (i + 1) ps ≡ take i ps ++ p ∷ []
take_next ps i p lt e =
    let step : i + 1 ≡ suc i = omega arith in
    ap (λ (n : ℕ). take n ps) step ∙ (take-suc ps i p lt ∙ ap (λ (q : Partition). take i ps ++ q ∷ []) (sym e))

module _ (apps : List App) where
  kept_push : (ps : List Partition) (parts : List PartLog) (faults : List (Option PartitionFault)) (p : Partition) (t : Told) → AreKeptOf apps ps parts faults
      → IsTold (wanted_of apps p.end.topic) p.end p.segments t → AreKeptOf apps (ps ++ p ∷ []) (parts ++ t.part ∷ []) (faults ++ t.fault ∷ [])
  kept_push ps parts faults p t h k =
      let one = k.part in
      let same : t.part ≡ kept_log apps one.log = one.wanted ∙ ap (λ (name : List ℕ). wanted_log (wanted_of apps name) one.log) (sym one.of.log.of_topic) in
      record {
        whole = h.whole ++ one.log ∷ [];
        of = logs_push ps h.whole p one.log h.of one.of;
        parts = ap (λ (ls : List PartLog). ls ++ t.part ∷ []) h.parts
            ∙ (ap (λ (l : PartLog). wanted_logs apps h.whole ++ l ∷ []) same ∙ sym (map-append (kept_log apps) h.whole (one.log ∷ [])));
        faults = faults_push ps faults p t.fault h.faults one.least;
      }

  pub kept_next : (ps : List Partition) (i : ℕ) (parts : List PartLog) (faults : List (Option PartitionFault)) (p : Partition) (t : Told) (w : Wanted) → i < length ps → p ≡ get_or ps i p
      → AreKeptOf apps (take i ps) parts faults → w ≡ wanted_of apps p.end.topic → IsTold w p.end p.segments t → AreKeptOf apps (take (i + 1) ps) (parts ++ t.part ∷ []) (faults ++ t.fault ∷ [])
  kept_next ps i parts faults p t w lt e h is k =
      let told : IsTold (wanted_of apps p.end.topic) p.end p.segments t = subst (λ (x : Wanted). IsTold x p.end p.segments t) is k in
      subst (λ (qs : List Partition). AreKeptOf apps qs (parts ++ t.part ∷ []) (faults ++ t.fault ∷ [])) (sym (take_next ps i p lt e)) (kept_push (take i ps) parts faults p t h told)

-- ---- the verdict

pub judged : (e : EvidenceParts) (parts : List PartLog) (faults : List (Option PartitionFault)) → AreKeptOf e.spec.apps e.partitions parts faults → IsEvidence e
    → (v : Verdict) → IsJudged e.spec.apps parts (first_of faults) v → IsVerdict e v
judged e parts faults h is v answer =
    let over : IsJudged e.spec.apps (wanted_logs e.spec.apps h.whole) (first_of faults) v =
    subst (λ (ls : List PartLog). IsJudged e.spec.apps ls (first_of faults) v) h.parts answer in
    (h.whole, h.of, kept.judged e h.whole h.of faults v is h.faults over)
