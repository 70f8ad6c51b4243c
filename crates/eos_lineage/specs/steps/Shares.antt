-- Partitions and the keys of their inputs' claims, cut into shares.
use Rattle.std.specs.Prelude.{◌≡◌, ◌<◌, ◌≤◌, ℕ, List, [], ◌∷◌, ◌++◌, flat_map, length, slice_index_or, take, drop, if◌then◌else◌}
use Rattle.std.specs.List.{sum}
use Rattle.eos_fold.specs.Parts.{part_name, PartLog}
use Rattle.eos_claims.specs.declared.place.Place.{Place}
use Rattle.eos_claims.specs.Outputs.{Application, committed_offset}
use Rattle.eos_commits.specs.Applications.{Topic, is_part_of}
use Rattle.eos_lineage.specs.declared.books.Books.{Books}
use Rattle.eos_lineage.specs.declared.shares.Share.{Share}
use Rattle.eos_lineage.specs.steps.Keys.{LeftView, below_at, HasTaken}

-- from a place and these keys on one share after the other, up to another place and the keys that are left
abbrev pub Follow : ℕ → List ℕ → List Share → ℕ → List ℕ → Type 0
Follow from keys [] until rest = (from ≡ until) × (keys ≡ rest)
Follow from keys (s ∷ ss) until rest = (s.from ≡ from) × (from ≤ s.until) × (left : List ℕ) × (keys ≡ s.keys.now ++ left) × Follow s.until left ss until rest

-- the inputs below their committed offsets in a partition, if it is of one of these topics
abbrev pub below_of : Application → List Topic → PartLog → List Place
below_of a topics p = if is_part_of topics p then flat_map (below_at (committed_offset a.commits (part_name p)) (part_name p)) p.items else []

-- those in the partitions from one place up to another one
abbrev pub inputs_between : Application → Books → ℕ → ℕ → List Place
inputs_between a b from until = flat_map (below_of a b.sources.now) (drop from (take until b.parts.now))

abbrev pub untaken : Share → LeftView
untaken s = record { keys = s.keys.now; inputs = 0 }

-- so many inputs are in the share's partitions, and its keys are those of their claims
abbrev pub IsCounted : Application → Books → Share → ℕ → Type 0
IsCounted a b s n = HasTaken b.names.now (untaken s) (record { keys = []; inputs = n }) (inputs_between a b s.from s.until)

-- each share is counted by the number at its place
abbrev pub AreCounted : Application → Books → List Share → List ℕ → Type 0
AreCounted a b ss ns = (i : ℕ) (s : Share) (n : ℕ) → i < length ss → IsCounted a b (slice_index_or ss i s) (slice_index_or ns i n)

-- so many inputs are in all shares
abbrev pub AddUp : Application → Books → List Share → ℕ → Type 0
AddUp a b ss n = (ns : List ℕ) × (length ns ≡ length ss) × AreCounted a b ss ns × (n ≡ sum ns)
