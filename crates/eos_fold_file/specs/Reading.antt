-- Reading a fold file from left to right, with the first fault that is met: the order of the refusals.
use Rattle.std.specs.Prelude.{ℕ, zero, suc, ◌+◌, ◌-◌, ℤ, pos, negsuc, List, [], length, take, Result, Ok, Err, None, ◌==◌, ◌&&◌, nat_eq, unsigned_abs}
use Rattle.std.specs.List.{list_all}
use Rattle.std.specs.Cmp.Lexicographic.{pointwise}
use Rattle.std.specs.Ordering.{int_eq}
use Rattle.eos_base.specs.Fallible.{◌>>=◌, must}
use Rattle.eos_wire.specs.Crc.{crc32c_of}
use Rattle.eos_wire.specs.Numbers.{bytes_at, u32_at}
use Rattle.eos_fold.specs.declared.stop.Stop.{Stop}
use Rattle.eos_reading.specs.Outputs.{KeptOutput}
use Rattle.eos_reading.specs.declared.wanted.Wanted.{Wanted}
use Rattle.eos_reading.specs.declared.wanted.Wanted.TheVariants as wants
use Rattle.eos_reading.specs.declared.epoch.EpochEntry.{EpochEntry}
use Rattle.eos_fold_file.specs.declared.fault.FoldFault.{FoldFault}
use Rattle.eos_fold_file.specs.declared.fault.FoldFault.TheVariants as faults
use Rattle.eos_fold_file.specs.declared.file.FoldFile.{FoldFile}
use Rattle.eos_fold_file.specs.declared.file.FoldKept.{FoldKept}
use Rattle.eos_fold_file.specs.declared.file.FoldKept.TheVariants.{Presence, Claims, Texts}
use Rattle.eos_fold_file.specs.declared.head.FoldHead.{FoldHead}
use Rattle.eos_fold_file.specs.declared.read.Front.{Front}
use Rattle.eos_fold_file.specs.Numbers.{present, kind_from, number_from, i32_from, u64_from, bytes_from, many_from}
use Rattle.eos_fold_file.specs.Records.{is_placed, output_from}
use Rattle.eos_fold_file.specs.Texts.{key_values_from}
use Rattle.eos_fold_file.specs.Heads.{head_from}
use Rattle.eos_fold_file.specs.Epochs.{are_entries, entry_from}
use Rattle.eos_fold_file.specs.Stops.{is_inside, stop_from}
use Rattle.eos_fold_file.specs.Files.{magic, record_count, data_count, size_sum, fits_offsets, fits_bytes}

-- ---- what stands before the batches

unfoldable pub magic_from : List ℕ → Result (List ℕ × List ℕ) FoldFault
magic_from bytes = do
  found ← present (bytes_at 7 bytes)
  must (pointwise nat_eq found.0 magic) faults.Magic found

unfoldable pub version_from : List ℕ → Result (ℤ × List ℕ) FoldFault
version_from bytes = do
  version ← kind_from bytes
  must (int_eq version.0 (pos 3)) faults.Version version

abbrev pub wanted_of : ℤ × List ℕ → Result (Wanted × List ℕ) FoldFault
wanted_of (pos zero, bytes) = Ok (wants.Presence, bytes)
wanted_of (pos (suc zero), bytes) = Ok (wants.Claims, bytes)
wanted_of (pos (suc (suc zero)), bytes) = Ok (wants.Texts, bytes)
wanted_of (pos (suc (suc (suc n))), bytes) = Err faults.Roles
wanted_of (negsuc n, bytes) = Err faults.Roles

unfoldable pub wanted_from : List ℕ → Result (Wanted × List ℕ) FoldFault
wanted_from bytes = kind_from bytes >>= wanted_of

unfoldable pub batches_from : List ℕ → Result (ℕ × List ℕ) FoldFault
batches_from bytes = present (u32_at bytes)

unfoldable pub front_from : List ℕ → Result (Front × List ℕ) FoldFault
front_from bytes = do
  begin ← magic_from bytes
  version ← version_from begin.1
  wanted ← wanted_from version.1
  topic ← bytes_from wanted.1
  partition ← i32_from topic.1
  base ← number_from partition.1
  size ← u64_from base.1
  batches ← batches_from size.1
  Ok (record { wanted = wanted.0; topic = topic.0; partition = partition.0; base = base.0; bytes = size.0; batches = batches.0 }, batches.1)

-- ---- the batches, and what is kept of their records

-- of a segment of this name and of so many bytes
unfoldable pub heads_from : ℤ → ℕ → List ℕ → Result (List FoldHead × List ℕ) FoldFault
heads_from base size bytes = do
  count ← u64_from bytes
  heads ← many_from head_from count.0 count.1
  must (fits_offsets base heads.0 && fits_bytes size heads.0) faults.Head heads

-- of a front with these heads
unfoldable pub epochs_from : ℕ → List FoldHead → List ℕ → Result (List EpochEntry × List ℕ) FoldFault
epochs_from begin heads bytes = do
  count ← u64_from bytes
  epochs ← many_from entry_from count.0 count.1
  must (are_entries begin None heads epochs.0) faults.Epoch epochs

-- each claim names a place among the topics, or a topic
abbrev pub placed_claims : List (List ℕ) → List KeptOutput → Result FoldKept FoldFault
placed_claims topics outputs = must (list_all (is_placed (length topics)) outputs) faults.Record (Claims topics outputs)

unfoldable pub claims_from : ℕ → List ℕ → Result (FoldKept × List ℕ) FoldFault
claims_from n bytes = do
  count ← u64_from bytes
  topics ← many_from bytes_from count.0 count.1
  outputs ← many_from output_from n topics.1
  claims ← placed_claims topics.0 outputs.0
  Ok (claims, outputs.1)

unfoldable pub texts_from : ℕ → List ℕ → Result (FoldKept × List ℕ) FoldFault
texts_from n bytes = do
  texts ← key_values_from [] [] n bytes
  Ok (Texts texts.0, texts.1)

-- of so many records
abbrev pub kept_from : Wanted → ℕ → List ℕ → Result (FoldKept × List ℕ) FoldFault
kept_from wants.Presence n bytes = Ok (Presence, bytes)
kept_from wants.Claims n bytes = claims_from n bytes
kept_from wants.Texts n bytes = texts_from n bytes

-- ---- the whole

abbrev pub file_with : Front → List FoldHead → List EpochEntry → FoldKept → Stop → FoldFile
file_with front heads epochs kept stop = record {
  topic = front.topic;
  partition = front.partition;
  base = front.base;
  bytes = front.bytes;
  batches = front.batches;
  heads = heads;
  epochs = epochs;
  kept = kept;
  stop = stop;
}

-- behind batches from this offset on, which end at this one and take so many of so many bytes
unfoldable pub inside_from : ℕ → ℕ → ℕ → ℕ → List ℕ → Result (Stop × List ℕ) FoldFault
inside_from begin next size bytes text = do
  stop ← stop_from text
  must (is_inside begin next size bytes stop.0) faults.Stop stop

unfoldable pub body_from : List ℕ → Result (FoldFile × List ℕ) FoldFault
body_from bytes = do
  front ← front_from bytes
  heads ← heads_from front.0.base front.0.bytes front.1
  epochs ← epochs_from (unsigned_abs front.0.base) heads.0 heads.1
  kept ← kept_from front.0.wanted (data_count heads.0) epochs.1
  stop ← inside_from (unsigned_abs front.0.base) (unsigned_abs front.0.base + record_count heads.0) (size_sum heads.0) front.0.bytes kept.1
  Ok (file_with front.0 heads.0 epochs.0 kept.0 stop.0, stop.1)

-- the bytes before the rest
abbrev pub before : List ℕ → List ℕ → List ℕ
before bytes rest = take (length bytes - length rest) bytes

unfoldable pub read_fold : List ℕ → Result FoldFile FoldFault
read_fold bytes = do
  fold ← body_from bytes
  crc ← present (u32_at fold.1)
  sealed ← must (crc.0 == crc32c_of (before bytes fold.1)) faults.Crc crc
  must (length sealed.1 == 0) faults.Trailing fold.0
