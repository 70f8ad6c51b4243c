use Rattle.std.proofs.Common.{arith}
use Rattle.eos_batch.proofs.EncodingSizes.{header_more, headers_done}
use Rattle.eos_batch.proofs.encode_size.headers_size.Goals as goal

pub loop-header-preserved : goal.loop-header-preserved
loop-header-preserved c = record {
  fits = omega arith;
  so_far = rw c.saturating_add-size.ensures (header_more c.args.headers.now c.loop-header.header-index c.header-item.result c.loop-header.size c.header_size.result _ c.loop-header-test.true c.header-item.is c.header_size.ensures c.loop-header.invariant.so_far);
}

pub returns : goal.returns
returns c = headers_done c.args.headers.now c.loop-header.header-index c.loop-header.size c.loop-header-test.false c.loop-header.invariant.fits c.loop-header.invariant.so_far
