-- The tables in which the claims of one application are looked up, and those that their sources and commits give.
use Rattle.std.specs.Prelude.{◌≡◌, ℕ, ℤ, pos, Bool, false, ◌&&◌, Option, Some, None, option_map, List, map, flat_map, fold, if◌then◌else◌, int_lt, IsPermutation}
use Rattle.std.specs.BTreeMap.{BTreeMap, get}
use Rattle.std.specs.Ordering.{int_cmp, ordering_then, is_eq}
use Rattle.std.specs.declared.cmp.Ordering.{Ordering}
use Rattle.eos_base.specs.declared.partition_name.PartitionName.{PartitionName}
use Rattle.eos_base.specs.PartitionNames.{name_cmp}
use Rattle.eos_base.specs.Members.{Has}
use Rattle.eos_claims.specs.declared.place.Place.{Place}
use Rattle.eos_claims.specs.Outputs.{Writer, PlacedClaim, Commit, Application}
use Rattle.eos_claims.specs.Candidates.{AreApart, is_by, is_source, is_input, is_committed}
use Rattle.eos_lineage.specs.steps.Walks.{inputs_at, claims_of_part}
use Rattle.eos_faults.specs.declared.lent.LentName.{LentName}
use Rattle.eos_faults.specs.declared.lent.LentPlace.{LentPlace}
use Rattle.eos_faults.specs.declared.lent.VisibleClaim.{VisibleClaim}
use Rattle.eos_faults.specs.contracts.lent.VisibleClaimOrd.TheImpl.{ghosts as claim_ghosts}
use Rattle.eos_faults.specs.declared.commits.Offset.{Offset}
use Rattle.eos_faults.specs.declared.commits.PassKey.{PassKey}
use Rattle.eos_faults.specs.declared.tables.Known.{Known}
use Rattle.eos_faults.specs.declared.tables.Books.{Books}
use Rattle.eos_faults.specs.declared.tables.Tables.{Tables}
use Rattle.eos_faults.specs.steps.Plain.{name_at, place_at, claim_at, by_name}

-- ---- claims in their order

-- by source, number and place, and then by what else they say
abbrev pub by_claim : VisibleClaim → VisibleClaim → Ordering
by_claim = claim_ghosts.cmp

-- these are the application's claims, in whatever order
pub record AreClaims (a : Application) (cs : List VisibleClaim) : Type 0 where
  pub sound : (c : PlacedClaim) → Has (map claim_at cs) c → Has a.claims c
  pub whole : (c : PlacedClaim) → Has a.claims c → Has (map claim_at cs) c

-- ---- inputs in their order

-- these are the application's inputs, in whatever order
pub record AreInputs (a : Application) (is : List LentPlace) : Type 0 where
  pub sound : (i : Place) → Has (map place_at is) i → Has a.inputs i
  pub whole : (i : Place) → Has a.inputs i → Has (map place_at is) i

-- ---- the commits

abbrev pub next_offset : PartitionName → Option ℤ → Commit → Option ℤ
next_offset n last m = if is_eq (name_cmp m.partition n) then Some m.offset else last

-- the offset of the last commit of a partition
abbrev pub last_of : List Commit → PartitionName → Option ℤ
last_of ms n = fold (next_offset n) None ms

abbrev pub AreOffsets : BTreeMap LentName Offset → List Commit → Type 0
AreOffsets offsets ms = (k : LentName) → option_map (λ o. o.offset) (get by_name offsets k) ≡ last_of ms (name_at k)

abbrev pub writer_of : PassKey → Writer
writer_of k = (k.producer, k.epoch)

abbrev pub pass_view : PassKey → Writer × PartitionName
pass_view k = (writer_of k, name_at k.partition)

abbrev pub key_by : Option Writer → PartitionName → Option (Writer × PartitionName)
key_by None n = None
key_by (Some w) n = Some (w, n)

abbrev pub by_pass : PassKey → PassKey → Ordering
by_pass j k = ordering_then (int_cmp j.producer k.producer) (ordering_then (int_cmp j.epoch k.epoch) (by_name j.partition k.partition))

abbrev pub further : Option ℤ → ℤ → ℤ
further None z = z
further (Some y) z = if int_lt y z then z else y

-- the commit is of this writer and partition
abbrev pub is_of : Writer → PartitionName → Commit → Bool
is_of w n m = is_by m.writer w && is_eq (name_cmp m.partition n)

abbrev pub next_reach : Writer → PartitionName → Option ℤ → Commit → Option ℤ
next_reach w n reach m = if is_of w n m then Some (further reach m.offset) else reach

-- the greatest offset that a transaction commits of a partition
abbrev pub reach_of : List Commit → Writer → PartitionName → Option ℤ
reach_of ms w n = fold (next_reach w n) None ms

abbrev pub AreReached : BTreeMap PassKey Offset → List Commit → Type 0
AreReached reached ms = (k : PassKey) → option_map (λ o. o.offset) (get by_pass reached k) ≡ reach_of ms (writer_of k) (name_at k.partition)

abbrev pub goes_past : ℕ → Option ℤ → Bool
goes_past o None = false
goes_past o (Some z) = int_lt (pos o) z

-- ---- what is looked up

abbrev pub is_reached : Option (Writer × PartitionName) → ℕ → List Commit → Bool
is_reached None o ms = false
is_reached (Some k) o ms = goes_past o (reach_of ms k.0 k.1)

-- ---- all of them

-- what an application reads, commits and writes, in these logs
pub record AreBooks (a : Application) (b : Books) : Type 0 where
  pub sources : IsPermutation a.sources b.sources
  pub offsets : AreOffsets b.offsets a.commits
  pub reached : AreReached b.reached a.commits
  pub inputs : a.inputs ≡ flat_map (inputs_at b.sources) b.parts.now
  pub claims : a.claims ≡ flat_map (claims_of_part b.outputs) b.parts.now
  pub apart : AreApart a

pub record AreTables (a : Application) (t : Tables) : Type 0 where
  pub sources : IsPermutation a.sources t.books.now.sources
  pub inputs : AreInputs a t.inputs
  pub offsets : AreOffsets t.books.now.offsets a.commits
  pub reached : AreReached t.books.now.reached a.commits
  pub apart : AreApart a
  pub claims : AreClaims a t.claims

-- ---- of a source

pub record IsKnown (a : Application) (i : Place) (known : Known) : Type 0 where
  pub source : known.is_source ≡ is_source a i
  pub input : known.is_input ≡ is_input a i
  pub committed : known.is_committed ≡ is_committed a i
