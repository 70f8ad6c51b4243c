-- The steps of writing a batch: sizes, which are counted before anything is written, and the widths of what was written.
use Rattle.std.specs.Prelude.{ℕ, ◌-◌, ◌^◌, min, FitsSigned, All}
use Rattle.std.specs.Int.{w8, w16, w32, w64}
use Rattle.eos_batch.specs.declared.record.Record.{Record}
use Rattle.eos_batch.specs.declared.batch.Batch.{Batch}

-- a size, or the greatest number of 64 bits
abbrev pub capped : ℕ → ℕ
capped size = min size (2 ^ 64 - 1)

-- each number of the record is one of its field's width
pub record HasRecordWidths (r : Record) : Type 0 where
  pub attributes : FitsSigned w8 r.attributes
  pub timestamp_delta : FitsSigned w64 r.timestamp_delta

-- and so is each of the batch's that the checksum covers
pub record HasCoveredWidths (b : Batch) : Type 0 where
  pub attributes : FitsSigned w16 b.attributes
  pub base_timestamp : FitsSigned w64 b.base_timestamp
  pub max_timestamp : FitsSigned w64 b.max_timestamp
  pub producer : FitsSigned w64 b.producer
  pub epoch : FitsSigned w16 b.epoch
  pub sequence : FitsSigned w32 b.sequence
  pub records : All HasRecordWidths b.records
