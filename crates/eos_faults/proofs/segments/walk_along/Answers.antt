use Rattle.std.proofs.Common.{◌≡◌, ap, ◌∙◌, arith, rules}
use Rattle.std.specs.Prelude.{unsigned_abs}
use Rattle.eos_fold.specs.Fronts.{base_of}
use Rattle.eos_faults.proofs.FrontSteps.{begins_all, all_passed, begins_elsewhere, begins_there, stops_inside, passes_whole}
use Rattle.eos_faults.proofs.SegmentSteps.{as_many, segment_at}
use Rattle.eos_faults.proofs.segments.walk_along.Goals as goal

pub loop-fold-init : goal.loop-fold-init
loop-fold-init c = λ segments are. begins_all c.args.is_sequenced segments c.new-walk.result c.new-walk.ensures

pub returns-then-begin-walk : goal.returns-then-begin-walk
returns-then-begin-walk c = λ segments are.
    let s = segment_at segments c.args.folds.now c.loop-fold.fold-index c.fold-item.result are c.loop-fold-test.true c.fold-item.is in
    let abs : c.unsigned_abs-begin.result ≡ unsigned_abs c.fold-item.result.base = search rules in
    let begin : c.unsigned_abs-begin.result ≡ base_of s.segment = abs ∙ ap unsigned_abs s.fold.base in
    begins_elsewhere c.args.is_sequenced segments c.loop-fold.fold-index s.segment c.loop-fold.walk c.unsigned_abs-begin.result s.inside s.there (c.loop-fold.invariant segments are) begin c.if-begin-walk.true

pub returns-then-not-is_at_end : goal.returns-then-not-is_at_end
returns-then-not-is_at_end c = λ segments are.
    let s = segment_at segments c.args.folds.now c.loop-fold.fold-index c.fold-item.result are c.loop-fold-test.true c.fold-item.is in
    let abs : c.unsigned_abs-begin.result ≡ unsigned_abs c.fold-item.result.base = search rules in
    let begin : c.unsigned_abs-begin.result ≡ base_of s.segment = abs ∙ ap unsigned_abs s.fold.base in
    let h = c.loop-fold.invariant segments are in
    let there = begins_there c.args.is_sequenced segments c.loop-fold.fold-index s.segment c.loop-fold.walk c.unsigned_abs-begin.result h begin c.if-begin-walk.false in
    stops_inside c.args.is_sequenced segments c.loop-fold.fold-index s.segment c.loop-fold.walk c.pass_segment.new.walk c.unsigned_abs-begin.result c.fold-item.result.stop s.inside s.there h begin c.if-begin-walk.false
    (c.is_at_end.ensures.other c.if-not-is_at_end.true) (c.in_ok-pass_segment.ensures c.args.is_sequenced h.front s.segment h.passed s.fold there)

pub loop-fold-preserved : goal.loop-fold-preserved
loop-fold-preserved c = λ segments are.
    let s = segment_at segments c.args.folds.now c.loop-fold.fold-index c.fold-item.result are c.loop-fold-test.true c.fold-item.is in
    let abs : c.unsigned_abs-begin.result ≡ unsigned_abs c.fold-item.result.base = search rules in
    let begin : c.unsigned_abs-begin.result ≡ base_of s.segment = abs ∙ ap unsigned_abs s.fold.base in
    let h = c.loop-fold.invariant segments are in
    let there = begins_there c.args.is_sequenced segments c.loop-fold.fold-index s.segment c.loop-fold.walk c.unsigned_abs-begin.result h begin c.if-begin-walk.false in
    passes_whole c.args.is_sequenced segments c.loop-fold.fold-index s.segment c.loop-fold.walk c.pass_segment.new.walk c.unsigned_abs-begin.result c.fold-item.result.stop s.inside s.there h begin c.if-begin-walk.false
    (c.is_at_end.ensures.at_end c.if-not-is_at_end.false) (c.in_ok-pass_segment.ensures c.args.is_sequenced h.front s.segment h.passed s.fold there)

pub returns : goal.returns
returns c = λ segments are.
    let n = as_many segments c.args.folds.now are in
    all_passed c.args.is_sequenced segments c.loop-fold.fold-index c.loop-fold.walk (omega (arith, n, c.loop-fold-test.false)) (c.loop-fold.invariant segments are)
