-- What the phases answer, put together.
use Rattle.std.proofs.Common.{◌≡◌, ℕ, List, Option, None, Result, Ok, Err, length, sym, ap, subst, ◌∙◌}
use Rattle.std.specs.Prelude.{IfOk}
use Rattle.std.specs.Result.{MatchResult}
use Rattle.eos_base.specs.Least.{NoneStands, IsLeast}
use Rattle.eos_evidence.specs.declared.application.App.{App}
use Rattle.eos_touch.specs.declared.fault.PartitionFault.{PartitionFault}
use Rattle.eos_fold.specs.Parts.{PartLog}
use Rattle.eos_txnlog.specs.declared.decision.Decision.{Decision}
use Rattle.eos_table.specs.TransactionLog.{transaction_parts, decisions_of}
use Rattle.eos_table.specs.TransactionLog as table
use Rattle.eos_table.specs.MatchFaults as matches
use Rattle.eos_commits.specs.Faults.{AreInOrder}
use Rattle.eos_lineage.specs.declared.counts.LineageCounts.{LineageCounts}
use Rattle.eos_verdict.specs.declared.lineage_fault.LineageFault.{LineageFault}
use Rattle.eos_lineage.specs.Faults.{IsAnswer}
use Rattle.eos_verdict.specs.declared.verdict.Fault.{Fault}
use Rattle.eos_verdict.specs.declared.verdict.Verdict.{Verdict}
use Rattle.eos_verdict.specs.declared.verdict.Verdict.TheVariants.{No}
use Rattle.eos_check.specs.Verdicts.{StandsInLog, StandsInMatching}
use Rattle.eos_check.specs.Judged.{IsVerdictOver, IsJudged}
use Rattle.eos_check.specs.steps.Phases.{IsMatched, IsTransacted}
use Rattle.eos_check.proofs.TransactionLogInOrder.{log_in_order}

pub if_ok : {X E : Type 0} (r : Result X E) (P Q : X → Type 0) → ((x : X) → P x → Q x) → IfOk r P → IfOk r Q
if_ok (Ok x) P Q f h = f x h
if_ok (Err e) P Q f h = h

pub match_ok : {X E : Type 0} (P : X → Type 0) (Q : E → Type 0) (r : Result X E) (x : X) → r ≡ Ok x → MatchResult r P Q → P x
match_ok P Q r x e h = subst (λ s. MatchResult s P Q) e h

pub match_err : {X E : Type 0} (P : X → Type 0) (Q : E → Type 0) (r : Result X E) (y : E) → r ≡ Err y → MatchResult r P Q → Q y
match_err P Q r y e h = subst (λ s. MatchResult s P Q) e h

-- ---- the transaction log and the matching

pub matched_found : (ls : List PartLog) → AreInOrder ls → (ds : List Decision)
    → (table.AreInOrder (transaction_parts ls) → NoneStands (StandsInLog ls) × (ds ≡ decisions_of (transaction_parts ls)))
    → (r : Result ℕ Fault) → IsMatched ds ls r → IsTransacted ls r
matched_found ls is ds read (Ok n) m =
    let log = read (log_in_order ls is) in
    let matched : NoneStands (StandsInMatching ls) = subst (λ (xs : List Decision). NoneStands (matches.Stands xs ls)) log.1 m.1 in
    (m.0 ∙ ap length log.1, log.0, matched)
matched_found ls is ds read (Err f) m =
    let log = read (log_in_order ls is) in
    let least : IsLeast matches.fault_cmp (StandsInMatching ls) m.0 = subst (λ (xs : List Decision). IsLeast matches.fault_cmp (matches.Stands xs ls) m.0) log.1 m.2 in
    λ apps. subst (λ (g : Fault). IsVerdictOver apps ls (No g)) (sym m.1) (log.0, least)

-- ---- what is judged

unnamed : (apps : List App) (ls : List PartLog) (o : Option PartitionFault) (v : Verdict) → o ≡ None → (AreInOrder ls → IsVerdictOver apps ls v) → IsJudged apps ls o v
unnamed apps ls o v e h = subst (λ (x : Option PartitionFault). IsJudged apps ls x v) (sym e) h

pub over_parts : (apps : List App) (ls parts : List PartLog) → parts ≡ ls → (o : Option PartitionFault) → o ≡ None → (v : Verdict)
    → (AreInOrder parts → IsVerdictOver apps parts v) → IsJudged apps ls o v
over_parts apps ls parts same o none v h = unnamed apps ls o v none (subst (λ (ps : List PartLog). AreInOrder ps → IsVerdictOver apps ps v) same h)

module _ (apps : List App) (parts : List PartLog) (r : Result ℕ Fault) (transacted : AreInOrder parts → IsTransacted parts r) where
  pub refused : (f : Fault) → r ≡ Err f → AreInOrder parts → IsVerdictOver apps parts (No f)
  refused f is at = let t : IsTransacted parts (Err f) = subst (IsTransacted parts) is (transacted at) in t apps

  pub answered : (n : ℕ) → r ≡ Ok n → (l : Result LineageCounts LineageFault) → (AreInOrder parts → IsAnswer apps parts l) → (v : Verdict)
      → (IsTransacted parts (Ok n) → IsAnswer apps parts l → IsVerdictOver apps parts v) → AreInOrder parts → IsVerdictOver apps parts v
  answered n is l lineage v h at = h (subst (IsTransacted parts) is (transacted at)) (lineage at)
