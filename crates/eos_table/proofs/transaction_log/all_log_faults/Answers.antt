use Rattle.std.proofs.Common.{sym, subst}
use Rattle.eos_base.specs.Members.{Has}
use Rattle.eos_table.specs.TransactionLog.{transaction_parts}
use Rattle.eos_table.specs.LogFaults.{Stands, log_cmp}
use Rattle.eos_table.proofs.LogOrder.{log_exact}
use Rattle.eos_base.proofs.WholeList.{all_by_order}
use Rattle.eos_table.proofs.LogGathered.{judged_all, sound, all_whole}
use Rattle.eos_table.proofs.transaction_log.all_log_faults.Goals as goal

pub returns : goal.returns
returns c = λ are.
    let log = transaction_parts c.args.parts.now in
    let found = judged_all log c.in_ok-faults.faults c.into_all.result.items c.in_ok-faults.ensures.faults c.into_all.ensures in
    let kept = c.distinct_in_order.ensures in
    all_by_order log_cmp (Stands log) (λ x y p q tied. log_exact x y tied) c.into_all.result.items c.distinct_in_order.result.items kept.rises kept.each kept.all
    (λ x h. sound log are x (subst (λ z. Has z x) found h)) (λ x st. subst (λ z. Has z x) (sym found) (all_whole log are x st))
