use Rattle.std.proofs.Common.{◌≡◌, ◌≤◌, ◌^◌, ◌++◌, All, length, drop, take}
use Rattle.eos_batch.specs.Encoding.{records_text}
use Rattle.eos_batch.specs.steps.Writing.{HasRecordWidths}
use Rattle.eos_batch.proofs.encode_record.write_records.Given as goal

abbrev pub invariant-loop-place : goal.invariant-loop-place
invariant-loop-place l = record {
  size : length (records_text l.place (drop l.place l.records)) ≤ 2 ^ 30;
  so_far : l.out.items ++ records_text l.place (drop l.place l.records) ≡ l.fn.out.items ++ records_text 0 l.records;
  widths : All HasRecordWidths (take l.place l.records);
}
