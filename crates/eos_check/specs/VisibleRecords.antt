-- Which records of a partition's log are visible, said of the batches of its front by their offsets.
-- Source: KIP-98, "Consumer", isolation level `read_committed`.
use Rattle.std.specs.Prelude.{◌≡◌, ◌⊎◌, ◌↔◌, ℕ, ◌+◌, ◌<◌, ◌≤◌, ℤ, false, List, length, Some}
use Rattle.eos_base.specs.Members.{Has}
use Rattle.eos_batch.specs.declared.batch.Batch.{Batch}
use Rattle.eos_batch.specs.declared.marker.Marker.{Marker}
use Rattle.eos_batch.specs.declared.marker.Kind.{Kind}
use Rattle.eos_batch.specs.declared.marker.Kind.TheVariants.{Commit}
use Rattle.eos_batch.specs.Attributes.{is_transactional, is_control}
use Rattle.eos_batch.specs.Marker.{marker_of}
use Rattle.eos_fold.specs.declared.item.Item.{Item}
use Rattle.eos_batch.specs.Offsets.{offset_of}
use Rattle.eos_fold.specs.Parts.{PartLog}
use Rattle.eos_commits.specs.Visible.{visible}

-- an end marker of this producer id and of this kind
pub record IsMarker (id : ℤ) (kind : Kind) (m : Batch) : Type 0 where
  pub marker : Marker
  pub content : marker_of m ≡ Some marker
  pub producer : marker.producer ≡ id
  pub of_kind : marker.kind ≡ kind

-- the next end marker of a batch's producer: of those at greater offsets the one at the least
pub record IsNextMarker (batches : List Batch) (b : Batch) (kind : Kind) (m : Batch) : Type 0 where
  pub among : Has batches m
  pub marks : IsMarker b.producer kind m
  pub greater : offset_of b < offset_of m
  pub least : (n : Batch) (other : Kind) → Has batches n → IsMarker b.producer other n → offset_of b < offset_of n → offset_of m ≤ offset_of n

-- a data batch with a record at this offset, of no transaction, or the producer's next end marker is a commit
pub record IsCommittedAt (batches : List Batch) (offset : ℕ) (b : Batch) : Type 0 where
  pub among : Has batches b
  pub of_data : is_control b.attributes ≡ false
  pub from : offset_of b ≤ offset
  pub before : offset < offset_of b + length b.records
  pub committed : (is_transactional b.attributes ≡ false) ⊎ ((m : Batch) × IsNextMarker batches b Commit m)

-- the log has a visible record at this offset
abbrev pub IsVisibleAt : PartLog → ℕ → Type 0
IsVisibleAt log offset = (x : Item) × Has (visible log) x × (x.offset ≡ offset)

-- a record is visible exactly where its batch is of no transaction or its producer's next end marker is a commit
abbrev pub VisibleByMarkers : List Batch → PartLog → Type 0
VisibleByMarkers batches log = (offset : ℕ) → IsVisibleAt log offset ↔ ((b : Batch) × IsCommittedAt batches offset b)
