-- The leader epochs of a front's batches, by the offsets at which they change, beside its heads and as bytes.
-- Source: Kafka's documentation, Message Format, "Record Batch" (partitionLeaderEpoch); KIP-101, whose leader epoch sequence file (in a
-- broker's folders leader-epoch-checkpoint) has such entries for each partition.
use Rattle.std.specs.Prelude.{ℕ, ◌+◌, ℤ, List, [], ◌∷◌, ◌++◌, Option, Some, Bool, true, false, is_some, ◌==◌, ◌&&◌, if◌then◌else◌, Result, Ok}
use Rattle.eos_base.specs.Fallible.{◌>>=◌}
use Rattle.eos_reading.specs.declared.epoch.EpochEntry.{EpochEntry}
use Rattle.eos_reading.specs.Epochs.{is_change}
use Rattle.eos_wire.specs.Writing.{varlong_of}
use Rattle.eos_fold_file.specs.declared.fault.FoldFault.{FoldFault}
use Rattle.eos_fold_file.specs.declared.head.FoldHead.{FoldHead}
use Rattle.eos_fold_file.specs.Numbers.{u64_text, i32_from, u64_from}

-- ---- beside heads

-- Behind a batch of this epoch, or at the first: each entry is of a batch with one of these heads, the first of which begins at this
-- offset, and has another epoch than the entry before; and the first batch of all has one.
abbrev pub are_entries : ℕ → Option ℤ → List FoldHead → List EpochEntry → Bool
are_entries next last [] [] = true
are_entries next last [] (e ∷ es) = false
are_entries next last (h ∷ hs) [] = is_some last && are_entries (next + h.count) last hs []
are_entries next last (h ∷ hs) (e ∷ es) =
    if next == e.start_offset then is_change last e.epoch && are_entries (next + h.count) (Some e.epoch) hs es
    else is_some last && are_entries (next + h.count) last hs (e ∷ es)

-- ---- as bytes

abbrev pub entry_text : EpochEntry → List ℕ
entry_text e = varlong_of e.epoch ++ u64_text e.start_offset

unfoldable pub entry_from : List ℕ → Result (EpochEntry × List ℕ) FoldFault
entry_from bytes = do
  epoch ← i32_from bytes
  start ← u64_from epoch.1
  Ok (record { epoch = epoch.0; start_offset = start.0 }, start.1)
