use Rattle.std.proofs.Common.{◌≡◌, ◌≤◌, ◌-◌, List, ◌++◌, length, slice_range}
use Rattle.eos_batch.specs.declared.record.Record.{Record}
use Rattle.eos_batch.specs.Reading.{records_at}
use Rattle.eos_batch.proofs.ReadLoops.{with_front}
use Rattle.eos_reading.specs.Kept.{kept_from}
use Rattle.eos_reading.proofs.batch.keep_records.Given as goal

abbrev pub invariant-loop-place : goal.invariant-loop-place
invariant-loop-place g l = record {
  within : l.from ≤ l.span.end;
  walked : (rs : List Record)
      × (with_front rs (records_at (l.span.count - l.place) l.place (slice_range l.bytes l.from l.span.end)) ≡ records_at l.span.count 0 (slice_range l.bytes l.span.begin l.span.end))
      × ((g.K.Kept.KeptList.list l.kept) ≡ (g.K.Kept.KeptList.list l.fn.kept) ++ kept_from (g.K.Reading.kept l.reading) l.span.offset rs)
      × (length rs ≡ l.place);
}
