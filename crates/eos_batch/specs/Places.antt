-- Where the records of a batch stand in its bytes, when reading makes none of them.
use Rattle.std.specs.Prelude.{◌≡◌, ◌≤◌, ◌<◌, ◌-◌, ◌^◌, ℕ, pos, ◌+ℤ◌, ◌≤ℤ◌, List, [], length, drop, slice_range, Result, Ok, Err}
use Rattle.eos_batch.specs.declared.fault.BatchFault.{BatchFault}
use Rattle.eos_batch.specs.declared.fault.BatchFault.TheVariants as faults
use Rattle.eos_batch.specs.declared.record.Record.{Record}
use Rattle.eos_batch.specs.declared.record.Header.{Header}
use Rattle.eos_batch.specs.declared.batch.Batch.{Batch}
use Rattle.eos_batch.specs.declared.walk.Opened.{Opened}
use Rattle.eos_base.specs.Fallible.{◌>>=◌, must}
use Rattle.eos_batch.specs.Reading.{used_up, bytes_at, body_at, record_at, records_at, with_records, batch_at}
use Rattle.eos_batch.specs.Marker.{has_right_control}
use Rattle.eos_batch.specs.Rules.{has_right_producer}

-- a record without its length, whatever its place, and nothing after it
unfoldable pub whole_at : List ℕ → Result Record BatchFault
whole_at bytes = do
  body ← body_at bytes
  whole ← used_up faults.Record body
  Ok whole.1

-- the record whose length stands at this byte
unfoldable pub found_at : ℕ → List ℕ → Result Record BatchFault
found_at at bytes = do
  text ← bytes_at (drop at bytes)
  whole_at text.0

-- the record at this place of its batch stands there, and the next one after it
pub record IsAt (bytes : List ℕ) (place from end next : ℕ) : Type 0 where
  pub found : Record
  pub after : from < next
  pub within : next ≤ end
  pub reads : found_at from bytes ≡ Ok found
  pub goes_on : record_at place (slice_range bytes from end) ≡ Ok (found, slice_range bytes next end)

-- so many records, which take the bytes from one place to another
abbrev pub records_in : List ℕ → ℕ → ℕ → ℕ → Result (List Record) BatchFault
records_in bytes begin end count = records_at count 0 (slice_range bytes begin end) >>= used_up faults.Trailing

-- what is tested after the records
abbrev pub finished : Batch → ℕ → List Record → Result (Batch × ℕ) BatchFault
finished b size rs = do
  controlled ← must (has_right_control (with_records b rs)) faults.Control (with_records b rs)
  right ← must (has_right_producer controlled) faults.Producer controlled
  Ok (right, size)

-- the batch at this place but for its records, and where these stand
pub record IsOpened (bytes : List ℕ) (at : ℕ) (o : Opened) : Type 0 where
  pub after : at ≤ o.begin
  pub within : o.begin ≤ o.end
  pub inside : o.end ≤ length bytes
  pub some : 1 ≤ o.count
  pub first : pos 0 ≤ℤ o.batch.base_offset
  pub last : (o.batch.base_offset +ℤ pos o.count) ≤ℤ pos (2 ^ 63)
  pub goes_on : batch_at (drop at bytes) ≡ (records_in bytes o.begin o.end o.count >>= finished o.batch (o.end - at))

abbrev pub read_headers : Result (List Header × List ℕ) BatchFault → List Header
read_headers (Ok x) = x.0
read_headers (Err e) = []
