-- What putting ends in order gives.
use Rattle.std.specs.Prelude.{◌≡◌, ◌+◌, ◌<◌, ◌&&◌, ℕ, List, Bool, true, false, length, slice_index_or, bytes_eq, IsPermutation}
use Rattle.std.specs.Ordering.{int_eq}
use Rattle.std.specs.List.Sorted.{IsStrictlySortedBy}
use Rattle.eos_evidence.specs.declared.ends.End.{End}
use Rattle.eos_evidence.specs.Ends.{end_cmp, are_apart, ordered}

-- no partition stands twice, and the list has these ends by topic bytes, then number
pub record IsInOrder (ends list : List End) : Type 0 where
  pub apart : are_apart ends ≡ true
  pub list_is : list ≡ ordered ends
  pub ascending : IsStrictlySortedBy end_cmp list
  pub shuffled : IsPermutation ends list
  pub as_many : length list ≡ length ends

abbrev pub are_of_one : End → End → Bool
are_of_one e f = bytes_eq e.topic f.topic && int_eq e.partition f.partition

-- no two neighbours are ends of one partition, or two of them are
abbrev pub AreNeighboursApart : List End → Type 0
AreNeighboursApart ends = (k : ℕ) (d : End) → k + 1 < length ends → are_of_one (slice_index_or ends k d) (slice_index_or ends (k + 1) d) ≡ false

abbrev pub AreNeighboursTied : List End → Type 0
AreNeighboursTied ends = (k : ℕ) × (k + 1 < length ends) × ((d : End) → are_of_one (slice_index_or ends k d) (slice_index_or ends (k + 1) d) ≡ true)
