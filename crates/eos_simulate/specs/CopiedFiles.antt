-- A file, or the end, of the partition in which a collector's mistake is made, and the bytes that a mistake leaves.
-- Source: Kafka's documentation, "Log" (a partition's folder is TOPIC-N) and "Record Batch" (its checksum).
use Rattle.std.specs.Prelude.{ℕ, ◌+◌, ◌-◌, List, ◌∷◌, ◌++◌, Bool, ◌&&◌, if◌then◌else◌, nat_lt, length, take, drop, bytes_eq}
use Rattle.std.specs.Ordering.{int_eq}
use Rattle.eos_wire.specs.Crc.{crc32c_of}
use Rattle.eos_wire.specs.Numbers.{u32_text}
use Rattle.eos_evidence.specs.declared.ends.End.{End}
use Rattle.eos_evidence.specs.declared.segment.Segment.{Segment}
use Rattle.eos_simulate.specs.declared.mistake.Mistake.{Mistake}

abbrev pub is_file_of : Mistake → Segment → Bool
is_file_of m s = bytes_eq s.topic m.topic.now && int_eq s.partition m.partition

abbrev pub is_end_of : Mistake → End → Bool
is_end_of m e = bytes_eq e.topic m.topic.now && int_eq e.partition m.partition

abbrev pub without_last : List ℕ → List ℕ
without_last bytes = take (length bytes - 1) bytes

abbrev pub with_byte : ℕ → ℕ → List ℕ → List ℕ
with_byte at value bytes = if nat_lt at (length bytes) then take at bytes ++ value ∷ drop (at + 1) bytes else bytes

-- the checksum of a batch stands at its byte 17, and is that of the bytes from 21 on; here those to the end of the file
abbrev pub sealed : List ℕ → List ℕ
sealed bytes = if nat_lt (length bytes) 21 then bytes else take 17 bytes ++ (u32_text (crc32c_of (drop 21 bytes)) ++ drop 21 bytes)
