use Rattle.std.proofs.Common.{◌∙◌, ap, map, subst, take_all, IsPermutation}
use Rattle.eos_table.specs.steps.Wanted.{marker_end}
use Rattle.eos_table.proofs.agree.markers_in_order.Goals as goal

pub returns : goal.returns
returns c =
    let all = c.loop-marker.invariant ∙ ap (map marker_end) (take_all c.loop-marker.marker-index c.args.markers.now c.loop-marker-test.false) in
    subst (λ z. IsPermutation z c.in_order.result.items) all c.in_order.ensures.same
