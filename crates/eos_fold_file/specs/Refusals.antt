-- Which field of a fold file is refused: the file read as `read_fold` reads it, with the first field at which that ends.
use Rattle.std.specs.Prelude.{ℕ, List, length, ◌==◌, Result, Ok, Err, unsigned_abs, ◌+◌}
use Rattle.eos_base.specs.Fallible.{◌>>=◌, must}
use Rattle.eos_wire.specs.Crc.{crc32c_of}
use Rattle.eos_wire.specs.Numbers.{u32_at}
use Rattle.eos_reading.specs.declared.wanted.Wanted.{Wanted}
use Rattle.eos_fold_file.specs.declared.fault.FoldFault.{FoldFault}
use Rattle.eos_fold_file.specs.declared.fault.FoldFault.TheVariants as faults
use Rattle.eos_fold_file.specs.declared.file.FoldFile.{FoldFile}
use Rattle.eos_fold_file.specs.declared.read.Front.{Front}
use Rattle.eos_fold_file.specs.declared.refusal.FoldField.{FoldField}
use Rattle.eos_fold_file.specs.declared.refusal.FoldField.TheVariants as fields
use Rattle.eos_fold_file.specs.declared.refusal.RefusedField.{RefusedField}
use Rattle.eos_fold_file.specs.Numbers.{present, bytes_from, i32_from, number_from, u64_from}
use Rattle.eos_fold_file.specs.Files.{record_count, data_count, size_sum}
use Rattle.eos_fold_file.specs.Reading.{magic_from, version_from, wanted_from, batches_from, heads_from, epochs_from, kept_from, inside_from, file_with, before}

-- what reading this field gives, which begins at the first of these bytes; where it is refused, the field, and how many bytes are left
abbrev pub within : {X : Type 0} → FoldField → List ℕ → Result X FoldFault → Result X RefusedField
within field bytes (Ok x) = Ok x
within field bytes (Err fault) = Err (record { fault = fault; field = field; left = length bytes })

unfoldable pub signs_in : List ℕ → Result (Wanted × List ℕ) RefusedField
signs_in bytes = do
  begin ← within fields.Magic bytes (magic_from bytes)
  version ← within fields.Version begin.1 (version_from begin.1)
  within fields.Roles version.1 (wanted_from version.1)

unfoldable pub front_in : List ℕ → Result (Front × List ℕ) RefusedField
front_in bytes = do
  wanted ← signs_in bytes
  topic ← within fields.Topic wanted.1 (bytes_from wanted.1)
  partition ← within fields.Partition topic.1 (i32_from topic.1)
  base ← within fields.Base partition.1 (number_from partition.1)
  size ← within fields.Bytes base.1 (u64_from base.1)
  batches ← within fields.Batches size.1 (batches_from size.1)
  Ok (record { wanted = wanted.0; topic = topic.0; partition = partition.0; base = base.0; bytes = size.0; batches = batches.0 }, batches.1)

unfoldable pub body_in : List ℕ → Result (FoldFile × List ℕ) RefusedField
body_in bytes = do
  front ← front_in bytes
  heads ← within fields.Heads front.1 (heads_from front.0.base front.0.bytes front.1)
  epochs ← within fields.Epochs heads.1 (epochs_from (unsigned_abs front.0.base) heads.0 heads.1)
  kept ← within fields.Kept epochs.1 (kept_from front.0.wanted (data_count heads.0) epochs.1)
  stop ← within fields.Stop kept.1 (inside_from (unsigned_abs front.0.base) (unsigned_abs front.0.base + record_count heads.0) (size_sum heads.0) front.0.bytes kept.1)
  Ok (file_with front.0 heads.0 epochs.0 kept.0 stop.0, stop.1)

unfoldable pub read_in : List ℕ → Result FoldFile RefusedField
read_in bytes = do
  fold ← body_in bytes
  crc ← within fields.Checksum fold.1 (present (u32_at fold.1))
  sealed ← within fields.Checksum fold.1 (must (crc.0 == crc32c_of (before bytes fold.1)) faults.Crc crc)
  within fields.End sealed.1 (must (length sealed.1 == 0) faults.Trailing fold.0)
