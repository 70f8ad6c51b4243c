use Rattle.std.proofs.Common.{◌∙◌, sym, ap, arith}
use Rattle.std.specs.Ordering.{is_gt}
use Rattle.std.proofs.lemmas.Option.{slice_get_within}
use Rattle.eos_faults.specs.steps.BySource.{source_of}
use Rattle.eos_faults.proofs.SourceEnds.{no_item, an_item, up_to_more, ends_here, ends_at_last, claims_rise}
use Rattle.eos_faults.proofs.by_source.end_of_claims.Goals as goal

pub loop-claim-preserved : goal.loop-claim-preserved
loop-claim-preserved c =
    let xs = c.args.claims.now in
    let at = an_item xs c.loop-claim.end c.in-Some.claim.now c.in-Some.ensures.lookup.0 c.in-Some.ensures.lookup.1 in
    let lt = slice_get_within xs c.loop-claim.end c.in-Some.claim.now at in
    let inv = c.loop-claim.invariant in
    let further = inv.0 in (
      omega (arith, further),
      omega (arith, lt),
      up_to_more source_of xs c.args.source.now c.args.from c.loop-claim.end c.in-Some.claim.now at (sym (c.is_gt.ensures ∙ ap is_gt c.cmp.ensures) ∙ c.if-is_gt.false) inv.2,
    )

pub returns-then-is_gt : goal.returns-then-is_gt
returns-then-is_gt c = λ up.
    let xs = c.args.claims.now in
    let at = an_item xs c.loop-claim.end c.in-Some.claim.now c.in-Some.ensures.lookup.0 c.in-Some.ensures.lookup.1 in
    ends_here source_of xs c.args.source.now (claims_rise xs up) c.args.from c.loop-claim.end c.in-Some.claim.now c.loop-claim.invariant.0 at (sym (c.is_gt.ensures ∙ ap is_gt c.cmp.ensures) ∙ c.if-is_gt.true) c.loop-claim.invariant.2

pub returns : goal.returns
returns c = λ up.
    let xs = c.args.claims.now in
    ends_at_last source_of xs c.args.source.now c.args.from c.loop-claim.end c.loop-claim.invariant.0 c.loop-claim.invariant.1 (no_item xs c.loop-claim.end c.in_default.ensures.lookup.0) c.loop-claim.invariant.2
