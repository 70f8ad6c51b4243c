use Rattle.eos_batch.proofs.EncodingSteps.{headers_next, headers_end, part_fits, rest_fits, part_written, all_written}
use Rattle.eos_batch.proofs.encode_record.write_headers.Goals as goal

pub write_header-requires : goal.write_header-requires
write_header-requires c =
    let next = headers_next c.args.headers.now c.loop-header.header-index c.header-item.result c.loop-header-test.true c.header-item.is in
    part_fits _ _ _ next c.loop-header.invariant.size

pub loop-header-preserved : goal.loop-header-preserved
loop-header-preserved c =
    let next = headers_next c.args.headers.now c.loop-header.header-index c.header-item.result c.loop-header-test.true c.header-item.is in
    record {
      size = rest_fits _ _ _ next c.loop-header.invariant.size;
      so_far = part_written _ _ _ _ _ _ next c.in_ok-write_header.ensures c.loop-header.invariant.so_far;
    }

pub returns : goal.returns
returns c = all_written _ _ _ (headers_end c.args.headers.now c.loop-header.header-index c.loop-header-test.false) c.loop-header.invariant.so_far
