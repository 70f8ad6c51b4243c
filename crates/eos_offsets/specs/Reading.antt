-- Reading a key or a value of `__consumer_offsets` (Kafka's schemas OffsetCommitKey and OffsetCommitValue) from left to
-- right, with the first fault that is met.
use Rattle.std.specs.Prelude.{ℕ, zero, suc, ℤ, pos, negsuc, Bool, true, false, ◌&&◌, ◌||◌, int_le, List, Option, Some, None, Result, Ok, Err, if◌then◌else◌, ⊤}
use Rattle.std.specs.Ordering.{int_eq}
use Rattle.eos_wire.specs.Numbers.{bytes_at, i16_at, i32_at, i64_at}
use Rattle.eos_base.specs.Fallible.{◌>>=◌}
use Rattle.eos_base.specs.Records.{present, ended}
use Rattle.eos_base.specs.declared.record_fault.RecordFault.{RecordFault}
use Rattle.eos_base.specs.declared.record_fault.RecordFault.TheVariants as faults
use Rattle.eos_wire.specs.declared.form.Form.TheVariants.{Plain}
use Rattle.eos_wire.specs.Reading.{string_from}
use Rattle.eos_offsets.specs.declared.key.OffsetKey.{OffsetKey}

-- a fault that bytes can have: not want of memory, and no record has a status
abbrev pub IsOfBytes : RecordFault → Type 0
IsOfBytes faults.Short = ⊤
IsOfBytes faults.Version = ⊤
IsOfBytes faults.Status = ⊥
IsOfBytes faults.Length = ⊤
IsOfBytes faults.Trailing = ⊤
IsOfBytes faults.OutOfMemory = ⊥

-- no record of this log has a status
abbrev pub IsNotStatus : RecordFault → Type 0
IsNotStatus faults.Short = ⊤
IsNotStatus faults.Version = ⊤
IsNotStatus faults.Status = ⊥
IsNotStatus faults.Length = ⊤
IsNotStatus faults.Trailing = ⊤
IsNotStatus faults.OutOfMemory = ⊤

-- what follows the metadata
abbrev pub after_metadata_from : ℤ → List ℕ → Result (List ℕ) RecordFault
after_metadata_from (pos n) bytes = present (bytes_at n bytes) >>= λ x. Ok x.1
after_metadata_from (negsuc zero) bytes = Ok bytes
after_metadata_from (negsuc (suc n)) bytes = Err faults.Length

unfoldable pub after_metadata : List ℕ → Result (List ℕ) RecordFault
after_metadata bytes = do
  len ← present (i16_at bytes)
  after_metadata_from len.0 len.1

abbrev pub is_key_version : ℤ → Bool
is_key_version version = int_eq version (pos 0) || int_eq version (pos 1)

-- the fields after the version
unfoldable pub key_fields_of : List ℕ → Result OffsetKey RecordFault
key_fields_of bytes = do
  group ← string_from Plain bytes
  topic ← string_from Plain group.1
  partition ← present (i32_at topic.1)
  ended (record { group = group.0; topic = topic.0; partition = partition.0 }, partition.1)

abbrev pub some_of : {X : Type 0} → Result X RecordFault → Result (Option X) RecordFault
some_of said = said >>= λ x. Ok (Some x)

unfoldable pub read_key : List ℕ → Result (Option OffsetKey) RecordFault
read_key bytes = do
  version ← present (i16_at bytes)
  if is_key_version version.0 then some_of (key_fields_of version.1) else Ok None

abbrev pub is_value_version : ℤ → Bool
is_value_version version = int_le (pos 0) version && int_le version (pos 3)

-- what follows a field that only some versions have
abbrev pub after_field : Bool → (List ℕ → Option (ℤ × List ℕ)) → List ℕ → Result (List ℕ) RecordFault
after_field true field_at bytes = present (field_at bytes) >>= λ x. Ok x.1
after_field false field_at bytes = Ok bytes

unfoldable pub value_fields_of : ℤ → List ℕ → Result ℤ RecordFault
value_fields_of version bytes = do
  offset ← present (i64_at bytes)
  after_leader_epoch ← after_field (int_eq version (pos 3)) i32_at offset.1
  rest ← after_metadata after_leader_epoch
  commit_timestamp ← present (i64_at rest)
  after_expire_timestamp ← after_field (int_eq version (pos 1)) i64_at commit_timestamp.1
  ended (offset.0, after_expire_timestamp)

unfoldable pub read_value : List ℕ → Result ℤ RecordFault
read_value bytes = do
  version ← present (i16_at bytes)
  if is_value_version version.0 then value_fields_of version.0 version.1 else Err faults.Version
