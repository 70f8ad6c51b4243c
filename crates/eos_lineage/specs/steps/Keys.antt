-- Claims and inputs as numbers, by which outputs are told that are as they should be.
use Rattle.std.specs.Prelude.{◌≡◌, ◌<◌, ◌+◌, ◌*◌, ⊤, ℕ, zero, suc, ℤ, pos, int_lt, true, ◌&&◌, not, List, [], ◌∷◌, ◌++◌, length, map, filter, flat_map, Option, Some, None, IfSome, if◌then◌else◌, slice_index_or, IsPermutation}
use Rattle.std.specs.List.{list_any}
use Rattle.std.specs.Ordering.{is_eq}
use Rattle.std.specs.declared.cmp.Ordering.TheVariants.{Less}
use Rattle.eos_base.specs.declared.partition_name.PartitionName.{PartitionName}
use Rattle.eos_base.specs.Members.{Has}
use Rattle.eos_base.specs.PartitionNames.{name_cmp}
use Rattle.eos_fold.specs.declared.item.Item.{Item}
use Rattle.eos_fold.specs.Parts.{part_name}
use Rattle.eos_claims.specs.declared.place.Place.{Place}
use Rattle.eos_claims.specs.Outputs.{PlacedClaim, Application, committed_offset}
use Rattle.eos_claims.specs.Candidates.{passes}
use Rattle.eos_claims.specs.Faults.{place_cmp}
use Rattle.eos_commits.specs.Visible.{is_visible}
use Rattle.eos_commits.specs.Applications.{place_in}
use Rattle.eos_lineage.specs.Lineage.{is_note}
use Rattle.eos_lineage.specs.declared.books.Books.{Books}
use Rattle.eos_lineage.specs.declared.exact.Left.{Left}
use Rattle.eos_lineage.specs.declared.keys.Keys.{Keys}
use Rattle.eos_commits.specs.NameTables.{AreAscending}
use Rattle.eos_lineage.specs.steps.Tables.{passes_of}
use Rattle.eos_lineage.specs.steps.Walks.{inputs_at}

-- ---- numbers

-- the place of the first of these names that is this one
abbrev pub place_among : List PartitionName → PartitionName → ℕ
place_among [] n = 0
place_among (m ∷ ns) n = if is_eq (name_cmp m n) then 0 else suc (place_among ns n)

-- a record's place, with 32 bits for the offset
abbrev pub spot : List PartitionName → Place → ℕ
spot ns i = place_among ns i.partition * 4294967296 + i.offset

-- a claim by its source's spot, with 10 bits each for the output's number and the count
abbrev pub key_at : ℕ → ℕ → ℕ → ℕ
key_at s output of = (s * 1024 + output) * 1024 + of

abbrev pub key_of : List PartitionName → PlacedClaim → ℕ
key_of ns c = key_at (spot ns c.source) c.output c.of

-- so many numbers, each 1024 above the one before: the next output of the same count
abbrev pub steps : ℕ → ℕ → List ℕ
steps first zero = []
steps first (suc n) = first ∷ steps (first + 1024) n

-- the claims of an input with so many outputs, each once, or the note that it has none
abbrev pub keys_for : ℕ → ℕ → List ℕ
keys_for s zero = key_at s 0 0 ∷ []
keys_for s (suc n) = steps (key_at s 1 (suc n)) (suc n)

-- the claims of these inputs, one input after the other
abbrev pub Told : List ℕ → List ℕ → Type 0
Told keys [] = keys ≡ []
Told keys (s ∷ ss) = (n : ℕ) × (n < 1024) × (rest : List ℕ) × (keys ≡ keys_for s n ++ rest) × Told rest ss

-- ---- what outputs are held against

-- each place below those after it
abbrev pub Climbs : List Place → Type 0
Climbs [] = ⊤
Climbs (i ∷ is) = ((j : Place) → Has is j → place_cmp i j ≡ Less) × Climbs is

pub record AreBooks (a : Application) (b : Books) : Type 0 where
  pub names : AreAscending b.names.now
  pub parts : b.names.now ≡ map part_name b.parts.now
  pub inputs : flat_map (inputs_at b.sources.now) b.parts.now ≡ a.inputs
  pub climb : Climbs a.inputs
  pub offsets : b.offsets.now ≡ map (committed_offset a.commits) b.names.now
  pub passes : IsPermutation (flat_map passes_of a.commits) b.passes.now

-- ---- the walk over claims

-- its numbers have the bits that they want, and its transaction committed past its source
pub record IsKeyed (a : Application) (ns : List PartitionName) (c : PlacedClaim) : Type 0 where
  pub named : Has ns c.source.partition
  pub offset : c.source.offset < 4294967296
  pub output : c.output < 1024
  pub of : c.of < 1024
  pub passed : list_any (passes c.writer c.source) a.commits ≡ true

pub record KeysView : Type 0 where
  pub keys : List ℕ
  pub outputs : ℕ

abbrev pub plain_keys : Keys → KeysView
plain_keys k = record { keys = k.keys.items; outputs = k.outputs }

abbrev pub no_keys : KeysView
no_keys = record { keys = []; outputs = 0 }

-- these claims were taken
pub record HasKeyed (a : Application) (ns : List PartitionName) (before after : KeysView) (cs : List PlacedClaim) : Type 0 where
  pub keys : after.keys ≡ before.keys ++ map (key_of ns) cs
  pub outputs : after.outputs ≡ before.outputs + length (filter (λ c. not (is_note c)) cs)
  pub each : (c : PlacedClaim) → Has cs c → IsKeyed a ns c

-- one list of keys after the other
abbrev pub joined_keys : KeysView → KeysView → KeysView
joined_keys v w = record { keys = v.keys ++ w.keys; outputs = v.outputs + w.outputs }

-- the second, which is there, was put at the end of the first
abbrev pub IsJoined : KeysView → Option Keys → KeysView → Type 0
IsJoined v None w = ⊥
IsJoined v (Some next) w = w ≡ joined_keys v (plain_keys next)

-- each of them has the keys of its claims, where it is there
abbrev pub EachKeyed : Application → List PartitionName → (ℕ → List PlacedClaim) → List (Option Keys) → Type 0
EachKeyed a ns claims chunks = (i : ℕ) (d : Option Keys) → i < length chunks → IfSome (slice_index_or chunks i d) (λ keys. HasKeyed a ns no_keys (plain_keys keys) (claims i))

-- the claims of the first so many
abbrev pub in_turn : (ℕ → List PlacedClaim) → ℕ → List PlacedClaim
in_turn claims zero = []
in_turn claims (suc n) = in_turn claims n ++ claims n

-- ---- the walk over inputs

-- the place of a visible record below an offset
abbrev pub below_at : ℤ → PartitionName → Item → List Place
below_at top n x = if is_visible x.fate && int_lt (pos x.offset) top then place_in n x ∷ [] else []

-- the keys that are left, and the number of inputs so far
pub record LeftView : Type 0 where
  pub keys : List ℕ
  pub inputs : ℕ

abbrev pub plain_left : Left → LeftView
plain_left l = record { keys = l.keys.now; inputs = l.inputs }

-- these inputs were taken, whose claims stood first
pub record HasTaken (ns : List PartitionName) (before after : LeftView) (is : List Place) : Type 0 where
  pub told : (rest : List ℕ) → Told after.keys rest → Told before.keys (map (spot ns) is ++ rest)
  pub count : after.inputs ≡ before.inputs + length is
  pub offsets : (i : Place) → Has is i → i.offset < 4294967296
