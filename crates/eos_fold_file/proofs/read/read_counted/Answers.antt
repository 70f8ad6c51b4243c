use Rattle.std.proofs.lemmas.Result.{err_from_is_err_and}
use Rattle.eos_fold_file.specs.Numbers.{many_from}
use Rattle.eos_fold_file.specs.Heads.{head_from}
use Rattle.eos_fold_file.proofs.HeadTotals.{counted_more}
use Rattle.eos_fold_file.proofs.Loop.{goes_on, ends, is_done}
use Rattle.eos_fold_file.proofs.read.read_counted.Goals as goal

pub returns-in_err-head : goal.returns-in_err-head
returns-in_err-head c =
    let p = err_from_is_err_and c.from_residual-in_err-head.result c.from_residual-in_err-head.ensures.1 in
    rw (p.1, p.2) (ends head_from c.in_err-head.field-0.0 c.loop.heads c.args.count c.loop.counter c.loop.here (many_from head_from c.args.count c.args.rest.now) c.loop-test.true c.in_err-head.ensures c.loop.invariant.so_far)

pub loop-preserved : goal.loop-preserved
loop-preserved c = record {
  so_far = rw c.in_ok-push.ensures.ok (goes_on head_from c.loop.heads c.args.count c.loop.counter c.loop.here c.in_ok-head.head c.read.new.rest (many_from head_from c.args.count c.args.rest.now) c.loop-test.true c.in_ok-head.ensures c.loop.invariant.so_far);
  counted = rw c.in_ok-push.ensures.ok (counted_more c.args.begin c.loop.heads c.in_ok-head.head c.loop.counted c.counted_on-counted.result c.counted_on-counted.ensures.next c.counted_on-counted.ensures.records c.counted_on-counted.ensures.size c.loop.invariant.counted);
}

pub returns : goal.returns
returns c = (is_done head_from c.loop.heads c.args.count c.loop.counter c.loop.here (many_from head_from c.args.count c.args.rest.now) c.loop-test.false c.loop.invariant.so_far, c.loop.invariant.counted)
