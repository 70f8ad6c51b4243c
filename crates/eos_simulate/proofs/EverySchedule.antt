-- The theorem on every schedule.
use Rattle.std.proofs.Common.{List, sym, subst}
use Rattle.eos_evidence.specs.Evidence.{EvidenceParts, IsEvidence}
use Rattle.eos_fold.specs.Parts.{PartLog}
use Rattle.eos_table.specs.TransactionLog.{transaction_parts, decisions_of}
use Rattle.eos_table.proofs.LogLaw.{law as log_law}
use Rattle.eos_table.proofs.AtomicLaw.{law as atomic_law}
use Rattle.eos_machine.specs.LogIndexes.{txn_index}
use Rattle.eos_machine.specs.World.{opening, log_at}
use Rattle.eos_machine.specs.Machine.{world_after}
use Rattle.eos_machine.specs.Elections.{LosesNothing}
use Rattle.eos_machine.specs.Rest.{AllAtomic}
use Rattle.eos_machine.proofs.Good.{Good}
use Rattle.eos_machine.proofs.Counting.{IsCounted, counted_run, counted_opening}
use Rattle.eos_machine.proofs.GoodEvents.{good_run}
use Rattle.eos_machine.proofs.Resting.{good_opening, rest_is_atomic}
use Rattle.eos_machine.proofs.StepRules.{all_steps}
use Rattle.eos_machine.proofs.TouchRules.{keeps_sequences, neighbours_fit}
use Rattle.eos_verdict.specs.declared.verdict.Fault.{Fault}
use Rattle.eos_verdict.specs.declared.verdict.Fault.TheVariants.{Partition as InPartition, Log, Match, Lineage}
use Rattle.eos_verdict.specs.declared.verdict.Verdict.{Verdict}
use Rattle.eos_verdict.specs.declared.verdict.Verdict.TheVariants.{Yes, No}
use Rattle.eos_commits.specs.EvidenceLogs.{AreLogsOf}
use Rattle.eos_check.specs.Verdicts.{Stands, IsVerdict}
use Rattle.eos_check.proofs.GoodLaw.{none_from}
use Rattle.eos_commits.proofs.LogsInOrder.{in_order}
use Rattle.eos_check.proofs.TransactionLogInOrder.{log_in_order}
use Rattle.eos_machine.specs.Schedules.{IsOfSchedule}
use Rattle.eos_simulate.specs.Schedules.{AreRight, HaveNoFault, HasRightLogs, HasNoFaultInLogs, IsOfOutputs, AccusesNoLog}
use Rattle.eos_simulate.proofs.Placing.{Placed, placed_run, placed_opening}
use Rattle.eos_simulate.proofs.Partitions.{partitions_are}
use Rattle.eos_simulate.proofs.Settled.{IsSettled}
use Rattle.eos_simulate.proofs.KeptRules.{all_keep, logs_are}
use Rattle.eos_simulate.proofs.TransactionRule.{keeps_rule}
use Rattle.eos_simulate.proofs.Atomics.{is_atomic}

settled : (e : EvidenceParts) (h : IsOfSchedule e) → IsSettled h.config h.world
settled e h = record {
  config = h.sizes;
  fit = neighbours_fit h.config h.world (keeps_sequences h.config h.world good counted) atomic;
  atomic = atomic;
  written = h.evidence.written;
  steps = λ a. all_steps h.config a (log_at h.world (txn_index h.config a)) (good.steps a);
  rest = h.rest;
  good = good;
  placed = subst (Placed h.config) (sym h.world_after) (placed_run h.config (opening h.config) h.events (placed_opening h.config));
}
  where
    lossless : LosesNothing (world_after h.config (opening h.config) h.events)
    lossless = subst LosesNothing h.world_after h.lossless

    good : Good h.config h.world
    good = subst (Good h.config) (sym h.world_after) (good_run h.config (opening h.config) h.events h.sizes (good_opening h.config) lossless)

    counted : IsCounted h.world
    counted = subst IsCounted (sym h.world_after) (counted_run h.config (opening h.config) h.events (counted_opening h.config))

    atomic : AllAtomic h.config h.world
    atomic = rest_is_atomic h.config h.world good h.rest

pub right_logs : (e : EvidenceParts) → IsOfSchedule e → HasRightLogs e
right_logs e h logs of =
    let s = settled e h in
    let parts = partitions_are h.config h.world e h.sizes h.evidence in
    let at = logs_are h.config h.world e.partitions logs of s parts in
    record {
      partitions = all_keep h.config h.world e.partitions logs of s parts;
      transaction_log = keeps_rule h.config h.world logs s at;
      atomic = is_atomic h.config h.world logs s at;
    }

no_fault : (e : EvidenceParts) (logs : List PartLog) (of : AreLogsOf e.partitions logs) → IsEvidence e → AreRight e logs → HaveNoFault e logs of
no_fault e logs of i r = record {
  in_partitions = none_from e.partitions logs of r.partitions;
  in_log = (log_law (transaction_parts logs) (log_in_order logs (in_order e logs i of))).0 r.transaction_log;
  in_matching = (atomic_law (decisions_of (transaction_parts logs)) logs).0 r.atomic;
}

pub no_fault_in_logs : (e : EvidenceParts) → IsEvidence e → IsOfSchedule e → HasNoFaultInLogs e
no_fault_in_logs e i h logs of = no_fault e logs of i (right_logs e h logs of)

of_outputs : (e : EvidenceParts) (logs : List PartLog) (of : AreLogsOf e.partitions logs) → HaveNoFault e logs of → (f : Fault) → Stands e logs of f → IsOfOutputs f
of_outputs e logs of n (InPartition f) s = n.in_partitions f s
of_outputs e logs of n (Log f) s = n.in_log f s.1
of_outputs e logs of n (Match f) s = n.in_matching f s.2
of_outputs e logs of n (Lineage f) s = tt

pub never_accused : (e : EvidenceParts) → IsEvidence e → IsOfSchedule e → (v : Verdict) → IsVerdict e v → AccusesNoLog v
never_accused e i h (Yes counts) v = tt
never_accused e i h (No fault) v = of_outputs e v.0 v.1 (no_fault_in_logs e i h v.0 v.1) fault v.2.stands
