-- How many end markers of a transaction stand in a partition: those that carry its producer id, one epoch and one kind (KIP-98; by KIP-890
-- the epoch that was decided is the next behind its data).
use Rattle.std.specs.Prelude.{◌≡◌, ◌&&◌, ℕ, ℤ, List, Bool, true, false, length}
use Rattle.std.specs.List.{filter}
use Rattle.std.specs.Ordering.{int_eq}
use Rattle.eos_batch.specs.declared.marker.Kind.{Kind}
use Rattle.eos_batch.specs.declared.marker.Kind.TheVariants.{Commit, Abort}
use Rattle.eos_batch.specs.declared.marker.Marker.{Marker}

abbrev pub is_kind : Kind → Kind → Bool
is_kind Commit Commit = true
is_kind Commit Abort = false
is_kind Abort Commit = false
is_kind Abort Abort = true

abbrev pub is_end : ℤ → ℤ → Kind → Marker → Bool
is_end producer epoch kind m = int_eq m.producer producer && int_eq m.epoch epoch && is_kind m.kind kind

-- among these
abbrev pub ends : List Marker → ℤ → ℤ → Kind → ℕ
ends markers producer epoch kind = length (filter (is_end producer epoch kind) markers)

-- of neither kind
abbrev pub HasNone : List Marker → ℤ → ℤ → Type 0
HasNone markers producer epoch = (ends markers producer epoch Commit ≡ 0) × (ends markers producer epoch Abort ≡ 0)
