-- What a log says of a batch beside its head, by the bytes in which it stands.
-- Source: Kafka's documentation, Message Format, "Record Batch" (partitionLeaderEpoch, crc).
use Rattle.std.specs.Prelude.{◌≡◌, ℕ, ℤ, List, [], ◌∷◌, ◌++◌, drop, Option, Some, None, ⊤}
use Rattle.eos_batch.specs.declared.head.BatchHead.{BatchHead}
use Rattle.eos_wire.specs.Numbers.{i32_at, u32_at}
use Rattle.eos_reading.specs.declared.epoch.EpochEntry.{EpochEntry}
use Rattle.eos_reading.specs.declared.seals.Seal.{Seal}
use Rattle.eos_reading.specs.Epochs.{is_change, entry_at}

abbrev pub sealed_by : ℕ → Option (ℤ × List ℕ) → Option (ℕ × List ℕ) → Option Seal
sealed_by offset None checksum = None
sealed_by offset (Some epoch) None = None
sealed_by offset (Some epoch) (Some checksum) = Some (record { offset = offset; leader_epoch = epoch.0; checksum = checksum.0 })

-- of the batch of this offset at the front: its leader epoch is its bytes 12 to 15, its checksum 17 to 20
abbrev pub seal_from : ℕ → List ℕ → Option Seal
seal_from offset bytes = sealed_by offset (i32_at (drop 12 bytes)) (u32_at (drop 17 bytes))

-- one of each batch at the front
abbrev pub AreSeals : List ℕ → List BatchHead → List Seal → Type 0
AreSeals bytes [] [] = ⊤
AreSeals bytes [] (s ∷ ss) = ⊥
AreSeals bytes (h ∷ hs) [] = ⊥
AreSeals bytes (h ∷ hs) (s ∷ ss) = (seal_from h.offset bytes ≡ Some s) × AreSeals (drop h.size bytes) hs ss

-- they were put at the end
abbrev pub AreSealed : List ℕ → List BatchHead → List Seal → List Seal → Type 0
AreSealed bytes heads seals seals' = (more : List Seal) × (seals' ≡ seals ++ more) × AreSeals bytes heads more

-- the leader epochs of batches with these seals, behind a batch of this epoch
abbrev pub entries_of : Option ℤ → List Seal → List EpochEntry
entries_of last [] = []
entries_of last (s ∷ ss) = entry_at (is_change last s.leader_epoch) s.offset s.leader_epoch ++ entries_of (Some s.leader_epoch) ss
