-- What one partition's log has to keep: its segments are whole, its sequences count up, and its transactions are fenced. Each
-- is said of the batches whose texts the segments are, by offsets and for all pairs of them.
-- Sources: Kafka's documentation, "Log" (segments are named by the offset of their first record); KIP-98, "Idempotent Producer
-- Guarantees" (sequences, fencing by epochs) and "Control Messages"; KIP-890 (the end of a transaction raises the epoch). That
-- offsets have no gaps is this project's own profile.
use Rattle.std.specs.Prelude.{◌≡◌, ℕ, ◌+◌, ℤ, pos, true, false, List, [], ◌∷◌, ◌++◌}
use Rattle.eos_base.specs.Members.{Has}
use Rattle.eos_batch.specs.declared.batch.Batch.{Batch}
use Rattle.eos_batch.specs.declared.marker.Marker.{Marker}
use Rattle.eos_batch.specs.Attributes.{is_transactional, is_control}
use Rattle.eos_batch.specs.Segment.{Splits}
use Rattle.eos_evidence.specs.declared.segment.Segment.{Segment}
use Rattle.eos_evidence.specs.Topics.{is_internal}
use Rattle.eos_touch.specs.Rules.{Sequenced, Fenced}
use Rattle.eos_fold.specs.Fronts.{base_of}
use Rattle.eos_touch.specs.Front.{records_in, ContinuesFrom}
use Rattle.eos_batch.specs.Marker.{markers_of}
use Rattle.eos_touch.specs.Touches.{touches_of}

-- all bytes of these segments are texts of these batches, one after the other: each segment is named by the number of records
-- before it, counted from here, and each batch has that number as its base offset
abbrev pub AreTexts : ℕ → List Segment → List Batch → Type 0
AreTexts at [] batches = batches ≡ []
AreTexts at (s ∷ ss) batches =
    (base_of s ≡ at) × (inside others : List Batch) × (batches ≡ inside ++ others) × Splits s.bytes inside [] × ContinuesFrom at inside
    × AreTexts (at + records_in inside) ss others

-- from offset 0 on, and as many records as was declared
pub record IsWhole (end : ℤ) (segments : List Segment) (batches : List Batch) : Type 0 where
  pub texts : AreTexts 0 segments batches
  pub records : pos (records_in batches) ≡ end

-- each producer id's sequences count from 0 in each epoch
abbrev pub IsSequenced : List Batch → Type 0
IsSequenced batches = (id : ℤ) → Sequenced (touches_of id batches)

-- data of a transaction
pub record IsTransactional (b : Batch) : Type 0 where
  pub of_data : is_control b.attributes ≡ false
  pub transactional : is_transactional b.attributes ≡ true

-- an end marker of this producer id is among these batches
abbrev pub HasMarker : ℤ → List Batch → Type 0
HasMarker id batches = (m : Marker) × Has (markers_of batches) m × (m.producer ≡ id)

-- each producer id's touches are fenced, and all data of a transaction is ended by a marker behind it
pub record IsFenced (batches : List Batch) : Type 0 where
  pub pairs : (id : ℤ) → Fenced (touches_of id batches)
  pub ended : (before : List Batch) (b : Batch) (after : List Batch) → batches ≡ before ++ b ∷ after → IsTransactional b → HasMarker b.producer after

-- the log of a partition of this topic keeps the rules; brokers check no sequences in the internal topics
pub record KeepsRules (topic : List ℕ) (end : ℤ) (segments : List Segment) (batches : List Batch) : Type 0 where
  pub whole : IsWhole end segments batches
  pub sequenced : is_internal topic ≡ false → IsSequenced batches
  pub fenced : IsFenced batches
