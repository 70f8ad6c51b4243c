-- The leader epoch that a value of `__consumer_offsets` names: that of the last record which its group had read (KIP-320; Kafka's
-- schema OffsetCommitValue, which has it in version 3).
use Rattle.std.specs.Prelude.{◌≡◌, ◌≢◌, ℕ, ℤ, pos, negsuc, List, Result, Ok, Err, if◌then◌else◌}
use Rattle.std.specs.Ordering.{int_eq}
use Rattle.eos_base.specs.Fallible.{◌>>=◌}
use Rattle.eos_base.specs.Records.{present}
use Rattle.eos_base.specs.declared.record_fault.RecordFault.{RecordFault}
use Rattle.eos_base.specs.declared.record_fault.RecordFault.TheVariants as faults
use Rattle.eos_wire.specs.Numbers.{i16_at, i32_at, i64_at, i32_text}
use Rattle.eos_offsets.specs.Text.{IsValueText}

-- behind the version and the offset
unfoldable pub leader_epoch_from : List ℕ → Result ℤ RecordFault
leader_epoch_from bytes = do
  version ← present (i16_at bytes)
  offset ← present (i64_at version.1)
  epoch ← present (i32_at offset.1)
  if int_eq version.0 (pos 3) then Ok epoch.0 else Err faults.Version

-- -1 for none, which is also what Kafka writes for it
abbrev pub or_none : Result ℤ RecordFault → ℤ
or_none (Ok epoch) = epoch
or_none (Err fault) = negsuc 0

abbrev pub leader_epoch_of : List ℕ → ℤ
leader_epoch_of bytes = or_none (leader_epoch_from bytes)

-- it is that of the value's text
pub record IsOfText {text : List ℕ} {offset : ℤ} (value : IsValueText text offset) (epoch : ℤ) : Type 0 where
  pub named : value.version ≡ pos 3 → value.leader_epoch ≡ i32_text epoch
  pub none : value.version ≢ pos 3 → epoch ≡ negsuc 0
