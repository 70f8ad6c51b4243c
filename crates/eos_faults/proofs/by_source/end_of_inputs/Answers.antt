use Rattle.std.proofs.Common.{◌∙◌, sym, ap, arith}
use Rattle.std.specs.Ordering.{is_gt}
use Rattle.std.proofs.lemmas.Option.{slice_get_within}
use Rattle.eos_faults.specs.steps.BySource.{itself}
use Rattle.eos_faults.proofs.SourceEnds.{no_item, an_item, up_to_more, ends_here, ends_at_last, inputs_rise}
use Rattle.eos_faults.proofs.by_source.end_of_inputs.Goals as goal

pub loop-input-preserved : goal.loop-input-preserved
loop-input-preserved c =
    let xs = c.args.inputs.now in
    let at = an_item xs c.loop-input.end c.in-Some.input.now c.in-Some.ensures.lookup.0 c.in-Some.ensures.lookup.1 in
    let lt = slice_get_within xs c.loop-input.end c.in-Some.input.now at in
    let inv = c.loop-input.invariant in
    let further = inv.0 in (
      omega (arith, further),
      omega (arith, lt),
      up_to_more itself xs c.args.source.now c.args.from c.loop-input.end c.in-Some.input.now at (sym (c.is_gt.ensures ∙ ap is_gt c.cmp.ensures) ∙ c.if-is_gt.false) inv.2,
    )

pub returns-then-is_gt : goal.returns-then-is_gt
returns-then-is_gt c = λ up.
    let xs = c.args.inputs.now in
    let at = an_item xs c.loop-input.end c.in-Some.input.now c.in-Some.ensures.lookup.0 c.in-Some.ensures.lookup.1 in
    ends_here itself xs c.args.source.now (inputs_rise xs up) c.args.from c.loop-input.end c.in-Some.input.now c.loop-input.invariant.0 at (sym (c.is_gt.ensures ∙ ap is_gt c.cmp.ensures) ∙ c.if-is_gt.true) c.loop-input.invariant.2

pub returns : goal.returns
returns c = λ up.
    let xs = c.args.inputs.now in
    ends_at_last itself xs c.args.source.now c.args.from c.loop-input.end c.loop-input.invariant.0 c.loop-input.invariant.1 (no_item xs c.loop-input.end c.in_default.ensures.lookup.0) c.loop-input.invariant.2
