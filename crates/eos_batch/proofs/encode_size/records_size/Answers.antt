use Rattle.std.proofs.Common.{arith}
use Rattle.eos_batch.proofs.EncodingSizes.{record_more, records_done}
use Rattle.eos_batch.proofs.encode_size.records_size.Goals as goal

pub loop-place-preserved : goal.loop-place-preserved
loop-place-preserved c = record {
  fits = omega arith;
  so_far = rw c.saturating_add-size.ensures (record_more c.args.records.now c.loop-place.place c.index-records-place.result c.loop-place.size c.record_size.result _ c.loop-place-test.true c.index-records-place.is c.record_size.ensures c.loop-place.invariant.so_far);
}

pub returns : goal.returns
returns c = records_done c.args.records.now c.loop-place.place c.loop-place.size c.loop-place-test.false c.loop-place.invariant.fits c.loop-place.invariant.so_far
