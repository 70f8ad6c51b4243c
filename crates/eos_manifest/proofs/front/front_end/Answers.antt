use Rattle.std.proofs.Common.{subst, arith}
use Rattle.eos_wire.specs.Numbers.{IsBytes}
use Rattle.eos_manifest.proofs.SegmentFronts.{stops, ends, goes_on, stays_within}
use Rattle.eos_manifest.proofs.front.front_end.Goals as goal

pub returns-in_default : goal.returns-in_default
returns-in_default c =
    stops c.args.from c.args.bytes.now c.loop-at.at c.loop-at.next c.in_ok-size.field-0 (omega (arith, c.len.ensures.value, c.loop-at-test.true))
    c.loop-at.invariant.walked c.in_default.is c.in_ok-size.ensures

pub loop-at-preserved : goal.loop-at-preserved
loop-at-preserved c =
    let fits : IsBytes c.args.bytes.now = subst IsBytes c.as_slice.ensures c.are_bytes.ensures in
    let kept = stays_within c.args.bytes.now c.loop-at.at c.loop-at.next c.in-Some.size c.in-Some.after c.in_ok-size.field-0 c.in-Some.is c.in_ok-size.ensures in
    record {
      within = kept.1;
      walked = goes_on c.args.from c.args.bytes.now c.loop-at.at c.loop-at.next c.in-Some.size c.in-Some.after c.in_ok-size.field-0 fits
          c.loop-at.invariant.within c.loop-at.invariant.walked c.in-Some.is c.in_ok-size.ensures;
    }

pub returns : goal.returns
returns c =
    ends c.args.from c.args.bytes.now c.loop-at.at c.loop-at.next (omega (arith, c.len.ensures.value, c.loop-at-test.false)) c.loop-at.invariant.walked
