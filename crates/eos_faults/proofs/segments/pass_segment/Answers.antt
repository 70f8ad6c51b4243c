use Rattle.std.proofs.Common.{List, sym, subst, arith}
use Rattle.eos_fold_file.specs.declared.head.FoldHead.{FoldHead}
use Rattle.eos_faults.proofs.SegmentSteps.{IsPassing, begins, next_one, none_left}
use Rattle.eos_faults.proofs.segments.pass_segment.Goals as goal

pub loop-head-init : goal.loop-head-init
loop-head-init c = λ sequenced front segment h is base.
    subst (λ (hs : List FoldHead). IsPassing sequenced front segment c.args.fold.now.stop hs c.args.walk.now) (sym c.as_slice-heads.ensures) (begins sequenced front segment c.args.fold.now c.args.walk.now h is base)

pub loop-head-preserved : goal.loop-head-preserved
loop-head-preserved c = λ sequenced front segment h is base.
    next_one sequenced front segment c.args.fold.now.stop c.as_slice-heads.result.now c.loop-head.head-index _ c.at-head.result c.loop-head.walk c.pass.new.self c.loop-head-test.true (c.loop-head.invariant sequenced front segment h is base) c.at-head.ensures
    (λ before b size at on passed. c.in_ok-pass.ensures sequenced before b size at on passed)

pub returns : goal.returns
returns c = λ sequenced front segment h is base.
    none_left sequenced front segment c.args.fold.now.stop c.as_slice-heads.result.now c.loop-head.head-index c.loop-head.walk (omega (arith, c.loop-head-test.false)) (c.loop-head.invariant sequenced front segment h is base)
