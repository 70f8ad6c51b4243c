-- Exactly once, of the outputs of one application that reads, processes and writes (KIP-98, "Transactional Guarantees";
-- KIP-447 for the offsets that are committed with the outputs): each input below the committed offset has its numbered
-- outputs, or a note that it has none, each once, from a transaction that committed past it.
use Rattle.std.specs.Prelude.{◌≡◌, ◌⊎◌, ℕ, ◌≤◌, ℤ, pos, ◌<ℤ◌, List, [], ◌∷◌, filter, Option, Some}
use Rattle.std.specs.Ordering.{is_eq}
use Rattle.eos_base.specs.declared.partition_name.PartitionName.{PartitionName}
use Rattle.eos_base.specs.PartitionNames.{name_cmp}
use Rattle.eos_base.specs.Members.{Has}
use Rattle.eos_claims.specs.declared.place.Place.{Place}

-- the producer id and epoch of a transaction
abbrev pub Writer : Type 0
Writer = ℤ × ℤ

-- a visible record of an output topic: it claims to be output `output` of the `of` outputs of the record at `source`
pub record PlacedClaim : Type 0 where
  pub source : Place
  pub output : ℕ
  pub of : ℕ
  pub at : Place
  pub writer : Option Writer

-- a visible record in which the application's group commits an offset of a partition
pub record Commit : Type 0 where
  pub partition : PartitionName
  pub offset : ℤ
  pub writer : Option Writer

-- the topics that it reads, the visible records of these, the commits of its group in the order of their log, and the
-- visible records of its output topics
pub record Application : Type 0 where
  pub sources : List (List ℕ)
  pub inputs : List Place
  pub commits : List Commit
  pub claims : List PlacedClaim

abbrev pub ReadsSources : Application → Type 0
ReadsSources app = (input : Place) → Has app.inputs input → Has app.sources input.partition.topic

-- the offset of the last commit, or this one where there is none
abbrev pub last_offset : ℤ → List Commit → ℤ
last_offset otherwise [] = otherwise
last_offset otherwise (commit ∷ commits) = last_offset commit.offset commits

-- The committed offset of a partition is that of its last commit, and 0 where there is none.
abbrev pub committed_offset : List Commit → PartitionName → ℤ
committed_offset commits name = last_offset (pos 0) (filter (λ commit. is_eq (name_cmp commit.partition name)) commits)

-- an input below the committed offset of its partition
pub record IsBelow (app : Application) (place : Place) : Type 0 where
  pub input : Has app.inputs place
  pub below : pos place.offset <ℤ committed_offset app.commits place.partition

-- a claim that names this input
pub record Names (app : Application) (input : Place) (claim : PlacedClaim) : Type 0 where
  pub has : Has app.claims claim
  pub source : claim.source ≡ input

-- the claims that name it are 1 of n to n of n, each once
pub record Numbered (app : Application) (input : Place) (n : ℕ) : Type 0 where
  pub some : 1 ≤ n
  pub within : (claim : PlacedClaim) → Names app input claim → (claim.of ≡ n) × (1 ≤ claim.output) × (claim.output ≤ n)
  pub each : (number : ℕ) → 1 ≤ number → number ≤ n → (claim : PlacedClaim) × Names app input claim × (claim.output ≡ number)
  pub once : (claim other : PlacedClaim) → Names app input claim → Names app input other → claim.output ≡ other.output → claim.at ≡ other.at

-- the one claim that names it is the note 0 of 0
pub record Noted (app : Application) (input : Place) : Type 0 where
  pub note : (claim : PlacedClaim) × Names app input claim
  pub zero : (claim : PlacedClaim) → Names app input claim → (claim.output ≡ 0) × (claim.of ≡ 0)
  pub once : (claim other : PlacedClaim) → Names app input claim → Names app input other → claim.at ≡ other.at

-- the claim is written in a transaction, and that transaction commits an offset past the claim's input
pub record IsPassed (app : Application) (claim : PlacedClaim) : Type 0 where
  pub writer : Writer
  pub transactional : claim.writer ≡ Some writer
  pub commit : Commit
  pub has : Has app.commits commit
  pub same : commit.writer ≡ Some writer
  pub partition : commit.partition ≡ claim.source.partition
  pub past : pos claim.source.offset <ℤ commit.offset

pub record Exact (app : Application) : Type 0 where
  pub counted : (input : Place) → IsBelow app input → ((n : ℕ) × Numbered app input n) ⊎ Noted app input
  pub passed : (claim : PlacedClaim) → Has app.claims claim → IsPassed app claim
  pub named : (claim : PlacedClaim) → Has app.claims claim → IsBelow app claim.source
