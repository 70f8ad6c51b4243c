-- The offset of a batch's first record.
-- Source: Kafka's documentation, Message Format, "Record Batch" (baseOffset).
use Rattle.std.specs.Prelude.{ℕ, unsigned_abs}
use Rattle.eos_batch.specs.declared.batch.Batch.{Batch}

-- the base offset, which is never below 0 where a batch was read
abbrev pub offset_of : Batch → ℕ
offset_of b = unsigned_abs b.base_offset
