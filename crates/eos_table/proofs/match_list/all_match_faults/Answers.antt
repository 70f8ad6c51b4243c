use Rattle.std.proofs.Common.{sym, subst, ap, ◌∙◌}
use Rattle.eos_base.specs.Members.{Has}
use Rattle.eos_base.proofs.WholeList.{all_by_order}
use Rattle.eos_verdict.specs.declared.match_fault.MatchFault.{MatchFault}
use Rattle.eos_table.specs.TransactionLog.{transaction_parts, decisions_of}
use Rattle.eos_table.specs.MatchFaults.{Stands, fault_cmp}
use Rattle.eos_table.specs.steps.KeptFaults.{Kept}
use Rattle.eos_table.specs.steps.OneShard.{OneShard}
use Rattle.eos_table.specs.steps.Shown.{gathered_in}
use Rattle.eos_table.proofs.KeptFaults.{all_kept}
use Rattle.eos_table.proofs.MatchOrder.{fault_exact}
use Rattle.eos_table.proofs.ShardPlaces.{sound_only, whole_only}
use Rattle.eos_table.proofs.match_list.all_match_faults.Goals as goal

pub returns : goal.returns
returns c =
    let ps = c.args.parts.now in
    let ds = decisions_of (transaction_parts ps) in
    let lent = c.as_slice.ensures.value ∙ c.in_ok-decisions.ensures in
    let z = c.only.result in
    let all = c.into_all.ensures ∙ (ap (λ (k : Kept MatchFault). k.all) c.in_ok-faults.ensures ∙ all_kept fault_cmp (gathered_in z.of z.number c.as_slice.result.now ps)) in
    let found = all ∙ (ap (λ xs. gathered_in z.of z.number xs ps) lent ∙ ap (λ (d : OneShard). gathered_in d.of d.number ds ps) c.only.ensures) in
    let kept = c.distinct_in_order.ensures in
    all_by_order fault_cmp (Stands ds ps) (λ x y p q tied. fault_exact x y tied) c.into_all.result.items c.distinct_in_order.result.items kept.rises kept.each kept.all
    (λ x h. sound_only ds ps x (subst (λ xs. Has xs x) found h)) (λ x st. subst (λ xs. Has xs x) (sym found) (whole_only ds ps x st))
