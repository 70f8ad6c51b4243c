-- A fold file: which bytes it is, and which values there are.
--
--   magic, version, what was wanted    EOSFOLD, 3, and a kind
--   topic, partition, base, bytes      of the segment
--   batches                            CRC-32C of the checksums of the front's batches
--   heads                              their count, and each
--   epochs                             their count, and each: where the leader epoch changes
--   kept                               of each data record of these, as it was wanted
--   stop                               why the front ends
--   checksum                           CRC-32C of all bytes before it
use Rattle.std.specs.Prelude.{ℕ, ◌^◌, min, ℤ, pos, List, [], ◌++◌, length, codes, flat_map, Bool, not, nat_lt, ◌+◌, unsigned_abs, if◌then◌else◌}
use Rattle.std.specs.List.{sum_by}
use Rattle.eos_wire.specs.Crc.{crc32c_of}
use Rattle.eos_wire.specs.Numbers.{i8_text, u32_text}
use Rattle.eos_wire.specs.Writing.{varlong_of}
use Rattle.eos_fold.specs.declared.stop.Stop.{Stop}
use Rattle.eos_reading.specs.declared.wanted.Wanted.{Wanted}
use Rattle.eos_reading.specs.declared.wanted.Wanted.TheVariants as wants
use Rattle.eos_reading.specs.declared.epoch.EpochEntry.{EpochEntry}
use Rattle.eos_fold_file.specs.declared.file.FoldFile.{FoldFile}
use Rattle.eos_fold_file.specs.declared.file.FoldKept.{FoldKept}
use Rattle.eos_fold_file.specs.declared.file.FoldKept.TheVariants.{Presence, Claims, Texts}
use Rattle.eos_fold_file.specs.declared.head.FoldHead.{FoldHead}
use Rattle.eos_fold_file.specs.Numbers.{u64_text, bytes_text}
use Rattle.eos_fold_file.specs.Records.{output_text}
use Rattle.eos_fold_file.specs.Texts.{key_values_text}
use Rattle.eos_fold_file.specs.Heads.{is_control_kind, head_text}
use Rattle.eos_fold_file.specs.Epochs.{entry_text}
use Rattle.eos_fold_file.specs.Stops.{is_inside, stop_text}

-- ---- counts

-- the number of records of these batches, and of their data records
abbrev pub record_count : List FoldHead → ℕ
record_count heads = sum_by (λ h. h.count) heads

abbrev pub data_records : FoldHead → ℕ
data_records h = if is_control_kind h.kind then 0 else h.count

abbrev pub data_count : List FoldHead → ℕ
data_count heads = sum_by data_records heads

-- the number of bytes that these batches have in the log
abbrev pub size_sum : List FoldHead → ℕ
size_sum heads = sum_by (λ h. h.size) heads

-- they lie inside a segment of so many bytes, of which no place is past the greatest i64
abbrev pub fits_bytes : ℕ → List FoldHead → Bool
fits_bytes bytes heads = not (nat_lt (min bytes (2 ^ 63)) (size_sum heads))

-- every offset of a front begun here lies from 0 to the greatest i64
abbrev pub fits_offsets : ℤ → List FoldHead → Bool
fits_offsets base heads = not (nat_lt (2 ^ 63) (unsigned_abs base + record_count heads))

-- the stop of a front with these heads lies behind them
abbrev pub stops_inside : ℤ → ℕ → List FoldHead → Stop → Bool
stops_inside base bytes heads stop = is_inside (unsigned_abs base) (unsigned_abs base + record_count heads) (size_sum heads) bytes stop

-- ---- what was wanted

abbrev pub wanted_in : FoldKept → Wanted
wanted_in Presence = wants.Presence
wanted_in (Claims topics outputs) = wants.Claims
wanted_in (Texts texts) = wants.Texts

abbrev pub wanted_number : Wanted → ℤ
wanted_number wants.Presence = pos 0
wanted_number wants.Claims = pos 1
wanted_number wants.Texts = pos 2

-- ---- the bytes

abbrev pub magic : List ℕ
magic = codes "EOSFOLD"

abbrev pub segment_text : FoldFile → List ℕ
segment_text f = bytes_text f.topic ++ (varlong_of f.partition ++ (varlong_of f.base ++ (u64_text f.bytes ++ u32_text f.batches)))

abbrev pub front_text : FoldFile → List ℕ
front_text f = magic ++ (i8_text (pos 3) ++ (i8_text (wanted_number (wanted_in f.kept)) ++ segment_text f))

abbrev pub heads_text : List FoldHead → List ℕ
heads_text heads = u64_text (length heads) ++ flat_map head_text heads

abbrev pub epochs_text : List EpochEntry → List ℕ
epochs_text epochs = u64_text (length epochs) ++ flat_map entry_text epochs

abbrev pub kept_text : FoldKept → List ℕ
kept_text Presence = []
kept_text (Claims topics outputs) = u64_text (length topics) ++ (flat_map bytes_text topics ++ flat_map output_text outputs)
kept_text (Texts texts) = key_values_text [] [] texts

unfoldable pub body_text : FoldFile → List ℕ
body_text f = front_text f ++ (heads_text f.heads ++ (epochs_text f.epochs ++ (kept_text f.kept ++ stop_text f.stop)))

abbrev pub sealed : List ℕ → List ℕ
sealed body = body ++ u32_text (crc32c_of body)

abbrev pub fold_text : FoldFile → List ℕ
fold_text f = sealed (body_text f)
