-- The rules for all touches of one producer id in one partition, in offset order: sequenced and fenced. They speak of
-- all pairs of touches, never of neighbours.
-- Sources: KIP-98, Idempotent Producer Guarantees (sequences count from 0 in each epoch; an older epoch is fenced), and
-- KIP-890 (the marker that ends a transaction carries a raised epoch).
use Rattle.std.specs.Prelude.{◌≡◌, ◌≢◌, ℕ, ◌+◌, ◌%◌, ◌^◌, ◌<◌, ℤ, pos, ◌≤ℤ◌, ◌<ℤ◌, true, Some, List, [], map, length, slice_get, slice_index_or, if◌then◌else◌, ⊤}
use Rattle.std.specs.Ordering.{int_eq}
use Rattle.std.specs.List.{All, AllPairs, flat_map, range_with_len}
use Rattle.eos_touch.specs.declared.touch.Touch.{Touch}
use Rattle.eos_touch.specs.declared.touch.Touch.TheVariants.{Data, End}
use Rattle.eos_touch.specs.Pair.{epoch_of, is_plain, is_open, is_marker, sequence_at}

-- ---- sequenced

-- the sequences of the records of a touch, where it is data of this epoch
abbrev pub sequences_in : ℤ → Touch → List ℤ
sequences_in of (Data epoch transactional base count) = if int_eq epoch of then map (sequence_at base) (range_with_len 0 count) else []
sequences_in of (End epoch kind) = []

-- the sequences of all data records of an epoch
abbrev pub sequences_of : ℤ → List Touch → List ℤ
sequences_of epoch touches = flat_map (sequences_in epoch) touches

-- this first one, the next and so on, modulo 2 ^ 31
abbrev pub CountsFrom : ℕ → List ℤ → Type 0
CountsFrom first sequences = (place : ℕ) (otherwise : ℤ) → place < length sequences → slice_index_or sequences place otherwise ≡ pos ((first + place) % 2 ^ 31)

-- a base sequence is from 0 to 2147483647
abbrev pub HasSequence : Touch → Type 0
HasSequence (Data epoch transactional base count) = (pos 0 ≤ℤ base) × (base <ℤ pos (2 ^ 31))
HasSequence (End epoch kind) = ⊤

-- in each epoch the sequences of the data records are 0, 1, 2 and so on
pub record Sequenced (touches : List Touch) : Type 0 where
  pub base : All HasSequence touches
  pub counted : (epoch : ℤ) → CountsFrom 0 (sequences_of epoch touches)

-- ---- fenced

-- the epoch of the first is at most that of the second, and less where the first is data and the second a marker
abbrev pub IsInOrder : Touch → Touch → Type 0
IsInOrder (Data epoch transactional base count) (Data next_epoch next_transactional next_base next_count) = epoch ≤ℤ next_epoch
IsInOrder (Data epoch transactional base count) (End next_epoch kind) = epoch <ℤ next_epoch
IsInOrder (End epoch kind) next = epoch ≤ℤ epoch_of next

-- two markers of one epoch are of one kind
abbrev pub HasOneKind : Touch → Touch → Type 0
HasOneKind (End epoch kind) (End next_epoch next_kind) = epoch ≡ next_epoch → kind ≡ next_kind
HasOneKind (End epoch kind) (Data next_epoch next_transactional next_base next_count) = ⊤
HasOneKind (Data epoch transactional base count) next = ⊤

-- both or neither are data of no transaction
abbrev pub IsAlike : Touch → Touch → Type 0
IsAlike first next = is_plain first ≡ is_plain next

-- two batches of transactions of unequal epochs have a marker between them
abbrev pub IsClosedBetween : List Touch → Type 0
IsClosedBetween touches = (i j : ℕ) (first next : Touch) → i < j → slice_get touches i ≡ Some first → slice_get touches j ≡ Some next
    → is_open first ≡ true → is_open next ≡ true → epoch_of first ≢ epoch_of next
    → (k : ℕ) × (marker : Touch) × (i < k) × (k < j) × (slice_get touches k ≡ Some marker) × (is_marker marker ≡ true)

-- what holds of every two touches, the earlier one first
pub record Fenced (touches : List Touch) : Type 0 where
  pub ordered : AllPairs IsInOrder touches
  pub closed : IsClosedBetween touches
  pub one_kind : AllPairs HasOneKind touches
  pub alike : AllPairs IsAlike touches
