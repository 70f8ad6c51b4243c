-- What a batch of records has to keep beside its layout.
-- Kafka's documentation, "Record Batch" and "Control Batches"; KIP-98 for the producer. That offsets are dense, so that
-- the number of records is the last offset delta plus 1, is this project's own profile.
use Rattle.std.specs.Prelude.{◌<◌, ◌≤◌, ◌^◌, pos, ◌+ℤ◌, ◌≤ℤ◌, length, Bool, IsTrue, is_some, int_lt, int_le, not, FitsSigned, if◌then◌else◌}
use Rattle.std.specs.Int.{w16, w32, w64}
use Rattle.eos_batch.specs.declared.batch.Batch.{Batch}
use Rattle.eos_batch.specs.Attributes.{is_transactional, is_control}
use Rattle.eos_batch.specs.Marker.{marker_of, has_right_control}

-- there is a record, the count fits its field, and every offset lies from 0 to the greatest i64
pub record IsCounted (b : Batch) : Type 0 where
  pub some : 1 ≤ length b.records
  pub fits : length b.records < 2 ^ 31
  pub first : pos 0 ≤ℤ b.base_offset
  pub last : (b.base_offset +ℤ pos (length b.records)) ≤ℤ pos (2 ^ 63)

-- a control batch is one control record that reads
abbrev pub IsControlRight : Batch → Type 0
IsControlRight b = IsTrue (has_right_control b)

-- transactional data and end markers name a producer
abbrev pub names_producer : Batch → Bool
names_producer b = if is_control b.attributes then is_some (marker_of b) else is_transactional b.attributes

-- and a batch with a producer has its epoch
abbrev pub has_right_producer : Batch → Bool
has_right_producer b = if int_lt b.producer (pos 0) then not (names_producer b) else int_le (pos 0) b.epoch

abbrev pub IsProducerRight : Batch → Type 0
IsProducerRight b = IsTrue (has_right_producer b)

-- each number of the header is one of its field's width
pub record HasWidths (b : Batch) : Type 0 where
  pub base_offset : FitsSigned w64 b.base_offset
  pub leader_epoch : FitsSigned w32 b.leader_epoch
  pub attributes : FitsSigned w16 b.attributes
  pub base_timestamp : FitsSigned w64 b.base_timestamp
  pub max_timestamp : FitsSigned w64 b.max_timestamp
  pub producer : FitsSigned w64 b.producer
  pub epoch : FitsSigned w16 b.epoch
  pub sequence : FitsSigned w32 b.sequence
