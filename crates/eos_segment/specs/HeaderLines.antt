-- The lines of a record's timestamp and headers. The timestamp is the batch's base timestamp and the record's delta (Kafka's
-- documentation, "Record"), in 64 bits; where bit 3 of the batch's attributes says that the broker's clock counts, it is the
-- batch's greatest timestamp (KIP-32, LogAppendTime).
use Rattle.std.specs.Prelude.{ℕ, ℤ, pos, Bool, List, ◌++◌, flat_map, codes, if◌then◌else◌}
use Rattle.std.specs.Fmt.{signed_decimal}
use Rattle.std.specs.Int.{w64, int_wrapping_add}
use Rattle.eos_batch.specs.Attributes.{has_some_of}
use Rattle.eos_batch.specs.declared.batch.Batch.{Batch}
use Rattle.eos_batch.specs.declared.record.Header.{Header}
use Rattle.eos_batch.specs.declared.record.Record.{Record}
use Rattle.eos_text.specs.Escaping.{escaped}
use Rattle.eos_segment.specs.Lines.{hex_or_null}

abbrev pub has_append_time : ℤ → Bool
has_append_time attributes = has_some_of (pos 0x08) attributes

abbrev pub timestamp_of : Batch → Record → ℤ
timestamp_of b r = if has_append_time b.attributes then b.max_timestamp else int_wrapping_add w64 b.base_timestamp r.timestamp_delta

unfoldable pub timestamp_line : ℤ → List ℕ
timestamp_line timestamp = (codes "  timestamp=" ++ signed_decimal timestamp) ++ codes "\n"

-- a key as topics and ids are printed, and a value in hexadecimal digits
unfoldable pub header_line : Header → List ℕ
header_line h = (codes "  header " ++ escaped h.key) ++ ((codes "=" ++ hex_or_null h.value) ++ codes "\n")

abbrev pub header_lines : Batch → Record → List ℕ
header_lines b r = timestamp_line (timestamp_of b r) ++ flat_map header_line r.headers
