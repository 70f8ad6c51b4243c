use Rattle.eos_batch.specs.steps.Writing.{HasRecordWidths}
use Rattle.eos_batch.proofs.EncodingSteps.{records_next, records_end, part_fits, rest_fits, part_written, all_written, All-take_more, All-take_whole}
use Rattle.eos_batch.proofs.encode_record.write_records.Goals as goal

pub write_record-requires-clause-size : goal.write_record-requires-clause-size
write_record-requires-clause-size c =
    let next = records_next c.args.records.now c.loop-place.place c.index-records-place.result c.loop-place-test.true c.index-records-place.is in
    part_fits _ _ _ next c.loop-place.invariant.size

pub loop-place-preserved : goal.loop-place-preserved
loop-place-preserved c =
    let next = records_next c.args.records.now c.loop-place.place c.index-records-place.result c.loop-place-test.true c.index-records-place.is in
    record {
      size = rest_fits _ _ _ next c.loop-place.invariant.size;
      so_far = part_written _ _ _ _ _ _ next c.in_ok-write_record.ensures.text c.loop-place.invariant.so_far;
      widths = All-take_more HasRecordWidths c.args.records.now c.loop-place.place c.index-records-place.result c.loop-place-test.true c.index-records-place.is c.loop-place.invariant.widths c.in_ok-write_record.ensures.widths;
    }

pub returns-clause-text : goal.returns-clause-text
returns-clause-text c = all_written _ _ _ (records_end c.args.records.now c.loop-place.place c.loop-place-test.false) c.loop-place.invariant.so_far

pub returns-clause-widths : goal.returns-clause-widths
returns-clause-widths c = All-take_whole HasRecordWidths c.args.records.now c.loop-place.place c.loop-place-test.false c.loop-place.invariant.widths
