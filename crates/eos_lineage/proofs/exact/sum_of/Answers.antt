use Rattle.std.proofs.Common.{◌+◌, ℕ, Option, ◌++◌, ◌∷◌, [], take, take_all, ap, sym, ◌∙◌}
use Rattle.std.proofs.lemmas.List.{take_more}
use Rattle.eos_lineage.proofs.SharesTaken.{one_counted}
use Rattle.eos_lineage.proofs.exact.sum_of.Goals as goal

pub loop-i-preserved : goal.loop-i-preserved
loop-i-preserved c =
    let i = c.loop-i.i in
    let os = c.args.counts.now in
    let n = c.in_ok-total.ensures in
    one_counted (take i os) (take (i + 1) os) c.loop-i.total c.in_ok-total.total n.0 c.loop-i.invariant
    (take_more os i _ c.loop-i-test.true ∙ ap (λ (x : Option ℕ). take i os ++ x ∷ []) n.1) n.2

pub returns : goal.returns
returns c =
    let r = c.loop-i.invariant in
    (r.0, sym (take_all c.loop-i.i c.args.counts.now c.loop-i-test.false) ∙ r.1, r.2)
