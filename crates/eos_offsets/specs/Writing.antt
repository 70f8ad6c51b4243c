-- The bytes of a key (version 1) and of a value of `__consumer_offsets` (Kafka's schemas OffsetCommitKey and
-- OffsetCommitValue), or why there are none. A value has the leader epoch -1, which is none, empty metadata and timestamps
-- of 0.
use Rattle.std.specs.Prelude.{ℕ, ◌^◌, ℤ, pos, negsuc, ◌&&◌, List, [], ◌++◌, length, Result, Ok, Err, nat_lt, if◌then◌else◌}
use Rattle.std.specs.Ordering.{int_eq}
use Rattle.eos_wire.specs.Numbers.{i16_text, i32_text, i64_text}
use Rattle.eos_base.specs.declared.record_fault.RecordFault.{RecordFault}
use Rattle.eos_base.specs.declared.record_fault.RecordFault.TheVariants as faults
use Rattle.eos_wire.specs.declared.form.Form.TheVariants.{Plain}
use Rattle.eos_wire.specs.FieldWriting.{string_text}
use Rattle.eos_offsets.specs.declared.key.OffsetKey.{OffsetKey}
use Rattle.eos_offsets.specs.declared.value.Commit.{Commit}
use Rattle.eos_offsets.specs.Reading.{is_value_version}

unfoldable pub key_bytes : OffsetKey → List ℕ
key_bytes key = i16_text (pos 1) ++ (string_text Plain key.group ++ (string_text Plain key.topic ++ i32_text key.partition))

abbrev pub write_key : OffsetKey → Result (List ℕ) RecordFault
write_key key = if nat_lt (length key.group) (2 ^ 15) && nat_lt (length key.topic) (2 ^ 15) then Ok (key_bytes key) else Err faults.Length

abbrev pub leader_epoch_text : ℤ → List ℕ
leader_epoch_text version = if int_eq version (pos 3) then i32_text (negsuc 0) else []

abbrev pub expire_timestamp_text : ℤ → List ℕ
expire_timestamp_text version = if int_eq version (pos 1) then i64_text (pos 0) else []

unfoldable pub value_bytes : ℤ → ℤ → List ℕ
value_bytes offset version =
    i16_text version ++ (i64_text offset ++ (leader_epoch_text version ++ (string_text Plain [] ++ (i64_text (pos 0) ++ expire_timestamp_text version))))

abbrev pub write_value : Commit → ℤ → Result (List ℕ) RecordFault
write_value commit version = if is_value_version version then Ok (value_bytes commit.offset version) else Err faults.Version
