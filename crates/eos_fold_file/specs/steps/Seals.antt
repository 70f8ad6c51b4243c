-- The checksum of a batch as a fold's own is made of it.
-- Source: Kafka's documentation, Message Format, "Record Batch" (crc).
use Rattle.std.specs.Prelude.{ℕ, List}
use Rattle.eos_wire.specs.Numbers.{u32_text}
use Rattle.eos_reading.specs.declared.seals.Seal.{Seal}

abbrev pub checksum_text : Seal → List ℕ
checksum_text s = u32_text s.checksum
