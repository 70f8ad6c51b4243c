use Rattle.std.proofs.lemmas.Result.{err_from_is_err_and}
use Rattle.eos_fold_file.specs.Numbers.{many_from}
use Rattle.eos_fold_file.proofs.Loop.{goes_on, ends, is_done}
use Rattle.eos_fold_file.proofs.entry.read_many.Goals as goal

pub returns-in_err-entry : goal.returns-in_err-entry
returns-in_err-entry g c =
    let p = err_from_is_err_and c.from_residual-in_err-entry.result c.from_residual-in_err-entry.ensures.1 in
    rw (p.1, p.2) (ends g.T.Entry.entry_from c.in_err-entry.field-0.0 c.loop.entries c.args.count c.loop.counter c.loop.here (many_from g.T.Entry.entry_from c.args.count c.args.rest.now) c.loop-test.true c.in_err-entry.ensures c.loop.invariant)

pub loop-preserved : goal.loop-preserved
loop-preserved g c =
    rw c.in_ok-push.ensures.ok (goes_on g.T.Entry.entry_from c.loop.entries c.args.count c.loop.counter c.loop.here c.in_ok-entry.entry c.read.new.rest (many_from g.T.Entry.entry_from c.args.count c.args.rest.now) c.loop-test.true c.in_ok-entry.ensures c.loop.invariant)

pub returns : goal.returns
returns g c = is_done g.T.Entry.entry_from c.loop.entries c.args.count c.loop.counter c.loop.here (many_from g.T.Entry.entry_from c.args.count c.args.rest.now) c.loop-test.false c.loop.invariant
