-- Where the batches of a segment stand: one behind the other, each read at its byte, and each beginning at the offset after the
-- last record of the one before.
-- Source: Kafka's documentation, "Log" (a segment is named by the offset of its first record) and Message Format, "Record
-- Batch".
use Rattle.std.specs.Prelude.{◌≡◌, ◌≢◌, ⊤, ◌⊎◌, ◌≤◌, ℕ, ◌+◌, List, [], ◌∷◌, length, drop, filter, Ok}
use Rattle.eos_batch.specs.declared.batch.Batch.{Batch}
use Rattle.eos_batch.specs.Heads.{head_of}
use Rattle.eos_batch.specs.Reading.{batch_at}
use Rattle.eos_evidence.specs.declared.segment.Segment.{Segment}
use Rattle.eos_fold.specs.Fronts.{base_of}
use Rattle.eos_sought.specs.declared.wanted.Standing.{Standing}
use Rattle.eos_sought.specs.declared.wanted.Wanted.{Wanted}
use Rattle.eos_sought.specs.Wanted.{is_wanted}

-- a batch of this head reads at this byte
pub record IsReadAt (bytes : List ℕ) (s : Standing) : Type 0 where
  pub batch : Batch
  pub reads : batch_at (drop s.byte bytes) ≡ Ok (batch, s.head.size)
  pub head : s.head ≡ head_of batch s.head.size

-- the byte after these batches, and the offset
abbrev pub byte_after : ℕ → List Standing → ℕ
byte_after at [] = at
byte_after at (s ∷ ss) = byte_after (at + s.head.size) ss

abbrev pub offset_after : ℕ → List Standing → ℕ
offset_after next [] = next
offset_after next (s ∷ ss) = offset_after (next + s.head.count) ss

-- from this byte and this offset on
abbrev pub IsRun : List ℕ → ℕ → ℕ → List Standing → Type 0
IsRun bytes at next [] = ⊤
IsRun bytes at next (s ∷ ss) = (s.byte ≡ at) × (s.head.offset ≡ next) × IsReadAt bytes s × IsRun bytes (at + s.head.size) (next + s.head.count) ss

-- no batch that begins at this offset reads at this byte
abbrev pub IsEnd : List ℕ → ℕ → ℕ → Type 0
IsEnd bytes at next = (s : Standing) → s.byte ≡ at → IsReadAt bytes s → s.head.offset ≢ next

-- of all batches of the segment those that are wanted
pub record AreWantedIn (segment : Segment) (wanted : Wanted) (found : List Standing) : Type 0 where
  pub all : List Standing
  pub run : IsRun segment.bytes 0 (base_of segment) all
  pub whole : (length segment.bytes ≤ byte_after 0 all) ⊎ IsEnd segment.bytes (byte_after 0 all) (offset_after (base_of segment) all)
  pub kept : found ≡ filter (λ s. is_wanted wanted s.head) all
