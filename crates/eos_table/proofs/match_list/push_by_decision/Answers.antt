use Rattle.std.proofs.Common.{◌≡◌, fold, map, ap, sym, subst, ◌∙◌}
use Rattle.std.proofs.lemmas.List.Sums.{fold-append}
use Rattle.std.specs.Result.{OnOk}
use Rattle.eos_table.specs.steps.Keys.{plain_listed}
use Rattle.eos_table.specs.steps.Shown.{found, decisions_at, closes_at}
use Rattle.eos_table.proofs.TablesShown.{all_decisions, all_closes}
use Rattle.eos_table.proofs.match_list.push_by_decision.Goals as goal

pub returns : goal.returns
returns c =
    let n = c.args.shard.of in
    let s = c.args.shard.number in
    let ds = c.args.decisions.now in
    let ps = c.args.parts.now in
    let old = c.args.faults.now in
    let kept = c.in_ok-deciders.deciders in
    let are = c.in_ok-deciders.ensures in
    let lists = map plain_listed c.in_ok-listed.listed in
    let first = c.in_ok-push_decisions.ensures ∙ ap (λ z. fold found old z) (all_decisions n s ds kept are) in
    let second = ap (λ z. fold found c.push_decisions.new.faults z) (all_closes n s ds ps kept lists are c.in_ok-listed.ensures) in
    let both = second ∙ (ap (λ z. fold found z (closes_at n s ds ps)) first ∙ sym (fold-append found old (decisions_at n s ds) (closes_at n s ds ps))) in
    subst (λ z. OnOk c.push_closes.result (c.push_closes.new.faults ≡ z)) both c.push_closes.ensures
