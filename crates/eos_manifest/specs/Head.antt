-- Whether the first record batch of a segment is compressed: its magic, byte 16, is 2, and of its attributes, bytes 21 and
-- 22, the low three bits name a compression (Kafka's documentation, Message Format, "Record Batch").
use Rattle.std.specs.Prelude.{ℕ, ◌&&◌, ◌==◌, ◌%◌, List, Bool, not, nat_le, length, slice_index}

abbrev pub begins_compressed : List ℕ → Bool
begins_compressed bytes = nat_le 23 (length bytes) && slice_index bytes 16 == 2 && not (slice_index bytes 22 % 8 == 0)
