use Rattle.std.proofs.Common.{◌∙◌, ap, map, subst, take_all, IsPermutation}
use Rattle.eos_table.specs.steps.Wanted.{close_end}
use Rattle.eos_table.proofs.agree.ends_in_order.Goals as goal

pub returns : goal.returns
returns c =
    let all = c.loop-close.invariant ∙ ap (map close_end) (take_all c.loop-close.close-index c.args.closes.now c.loop-close-test.false) in
    subst (λ z. IsPermutation z c.in_order.result.items) all c.in_order.ensures.same
