use Rattle.std.proofs.Common.{subst}
use Rattle.eos_base.specs.Least.{IsLeastOrNone}
use Rattle.eos_table.specs.TransactionLog.{transaction_parts}
use Rattle.eos_table.specs.LogFaults.{Stands, log_cmp}
use Rattle.eos_table.proofs.LogGathered.{judged_least}
use Rattle.eos_table.proofs.transaction_log.txn_log.Goals as goal

pub returns-in-None : goal.returns-in-None
returns-in-None c = λ are.
    let log = transaction_parts c.args.parts.now in
    let least = judged_least log are c.in_ok-decisions.faults c.into_least.result c.in_ok-decisions.ensures.faults c.into_least.ensures in (
      subst (IsLeastOrNone log_cmp (Stands log)) c.in-None.is least,
      c.in_ok-decisions.ensures.decisions,
    )

pub returns-in-Some : goal.returns-in-Some
returns-in-Some c = λ are.
    let log = transaction_parts c.args.parts.now in
    let least = judged_least log are c.in_ok-decisions.faults c.into_least.result c.in_ok-decisions.ensures.faults c.into_least.ensures in
    subst (IsLeastOrNone log_cmp (Stands log)) c.in-Some.is least
