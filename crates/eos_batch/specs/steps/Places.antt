-- Where the records of a batch stand in its bytes, when reading makes none of them.
use Rattle.std.specs.Prelude.{ℕ, pos, List, Result, Ok}
use Rattle.std.specs.Ordering.{int_eq}
use Rattle.eos_batch.specs.declared.fault.BatchFault.{BatchFault}
use Rattle.eos_batch.specs.declared.fault.BatchFault.TheVariants as faults
use Rattle.eos_batch.specs.declared.record.Header.{Header}
use Rattle.eos_batch.specs.declared.record.Record.{Record}
use Rattle.eos_wire.specs.Numbers.{i8_at}
use Rattle.eos_batch.specs.declared.view.Parts.{Parts}
use Rattle.eos_base.specs.Fallible.{◌>>=◌, or_fault, must}
use Rattle.eos_batch.specs.Reading.{used_up, int_at, long_at, optional_at, count_at, headers_at}

-- the fields of a record before its headers, and what is left for these
unfoldable pub parts_at : List ℕ → Result Parts BatchFault
parts_at bytes = do
  attributes ← or_fault faults.Record (i8_at bytes)
  timestamp ← long_at attributes.1
  delta ← int_at timestamp.1
  key ← optional_at delta.1
  value ← optional_at key.1
  count ← count_at value.1
  Ok (record { attributes = attributes.0; timestamp_delta = timestamp.0; delta = delta.0; key = key.0; value = value.0; count = count.0; rest = count.1 })

abbrev pub made_of : Parts → List Header → Record
made_of p hs = record { attributes = p.attributes; timestamp_delta = p.timestamp_delta; key = p.key; value = p.value; headers = hs }

-- the record of these fields, and nothing after its headers
abbrev pub whole_from : Parts → Result Record BatchFault
whole_from p = do
  headers ← headers_at p.count p.rest
  used_up faults.Record (made_of p headers.0, headers.1)

-- the same, at this place of its batch
abbrev pub placed_from : ℕ → Parts → Result Record BatchFault
placed_from place p = do
  r ← whole_from p
  must (int_eq p.delta (pos place)) faults.Delta r
