use Rattle.std.proofs.lemmas.Result.{err_from_is_err_and}
use Rattle.eos_batch.specs.Reading.{headers_at}
use Rattle.eos_batch.proofs.ReadLoops.{header_goes_on, header_ends, headers_done}
use Rattle.eos_batch.proofs.read_record.headers_of.Goals as goal

pub returns-in_err-header : goal.returns-in_err-header
returns-in_err-header c =
    let p = err_from_is_err_and c.from_residual.result c.from_residual.ensures.1 in
    rw (p.1, p.2) (header_ends c.in_err-header.field-0.0 c.loop.headers.items c.args.count c.loop.counter c.loop.rest (headers_at c.args.count c.args.rest.now) c.loop-test.true c.in_err-header.ensures c.loop.invariant)

pub loop-preserved : goal.loop-preserved
loop-preserved c =
    rw c.in_ok-push.ensures.items (header_goes_on c.loop.headers.items c.args.count c.loop.counter c.loop.rest c.in_ok-header.header c.header_of.new.rest (headers_at c.args.count c.args.rest.now) c.loop-test.true c.in_ok-header.ensures c.loop.invariant)

pub returns : goal.returns
returns c = rw c.new.ensures (headers_done c.loop.headers.items c.args.count c.loop.counter c.loop.rest (headers_at c.args.count c.args.rest.now) c.loop-test.false c.loop.invariant)
