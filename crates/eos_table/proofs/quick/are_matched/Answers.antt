use Rattle.std.proofs.Common.{◌≡◌, ◌∙◌, List, Option, true, sym, subst}
use Rattle.std.specs.Prelude.{IfSome}
use Rattle.std.proofs.lemmas.Result.{IfOk-weaker}
use Rattle.eos_base.specs.Least.{NoneStands}
use Rattle.eos_txnlog.specs.declared.decision.Decision.{Decision}
use Rattle.eos_table.specs.MatchFaults.{Stands}
use Rattle.eos_table.specs.steps.Wanted.{Lists, wishes, Have}
use Rattle.eos_table.proofs.QuickLaw.{none_stands}
use Rattle.eos_table.proofs.quick.are_matched.Goals as goal

pub returns : goal.returns
returns g c =
    let wanted = c.args.wanted.now in
    let ds = c.decisions.result.now in
    let ps = c.args.parts.now in
    let lists = c.in-Some.lists.now in
    let same = c.decisions.ensures ∙ c.table.ensures in
    let found : Have ps (wishes wanted.0) lists = subst (λ (o : Option Lists). IfSome o (Have ps (wishes wanted.0))) (sym c.in-Some.ensures) c.requires in
    let have : Have ps (wishes ds) lists = subst (λ (z : List Decision). Have ps (wishes z) lists) (sym same) found in
    IfOk-weaker c.are_good.result _ (λ yes. yes ≡ true → NoneStands (Stands wanted.0 ps))
    (λ yes h is. let r = h is in subst (λ (z : List Decision). NoneStands (Stands z ps)) same (none_stands ds ps lists have c.as_slice.result.now r.0 r.1 r.2))
    c.are_good.ensures
