use Rattle.std.proofs.lemmas.Result.{err_from_is_err_and}
use Rattle.eos_batch.specs.Reading.{records_at}
use Rattle.eos_batch.proofs.ReadLoops.{record_goes_on, record_ends, records_done}
use Rattle.eos_batch.proofs.read_record.records_of.Goals as goal

pub returns-in_err-push_record : goal.returns-in_err-push_record
returns-in_err-push_record c =
    let p = err_from_is_err_and c.from_residual.result c.from_residual.ensures.1 in
    rw (p.1, p.2) (record_ends c.in_err-push_record.field-0.0 c.loop-place.records.items c.args.count c.loop-place.place c.loop-place.rest (records_at c.args.count 0 c.args.rest.now) c.loop-place-test.true c.in_err-push_record.ensures c.loop-place.invariant)

pub loop-place-preserved : goal.loop-place-preserved
loop-place-preserved c =
    let pushed = c.in_ok-push_record.ensures in
    rw pushed.2 (record_goes_on c.loop-place.records.items c.args.count c.loop-place.place c.loop-place.rest pushed.0 c.push_record.new.rest (records_at c.args.count 0 c.args.rest.now) c.loop-place-test.true pushed.1 c.loop-place.invariant)

pub returns : goal.returns
returns c = rw c.new.ensures (records_done c.loop-place.records.items c.args.count c.loop-place.place c.loop-place.rest (records_at c.args.count 0 c.args.rest.now) c.loop-place-test.false c.loop-place.invariant)
