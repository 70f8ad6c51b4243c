-- The walks over visible records and over claims.
use Rattle.std.specs.Prelude.{◌≡◌, ℕ, ℤ, pos, int_lt, Bool, true, false, ◌&&◌, ◌==◌, not, List, [], ◌∷◌, ◌++◌, length, map, filter, flat_map, fold, Option, Some, None, option_map, if◌then◌else◌, IsPermutation, IsSorted}
use Rattle.std.specs.List.{list_any}
use Rattle.std.specs.Ordering.{is_eq, nat_cmp, then_cmp, on}
use Rattle.std.specs.declared.cmp.Ordering.{Ordering}
use Rattle.eos_base.specs.declared.partition_name.PartitionName.{PartitionName}
use Rattle.eos_base.specs.Members.{Has}
use Rattle.eos_base.specs.Least.{NoneStands, IsLeast, lesser_of}
use Rattle.eos_evidence.specs.declared.application.App.{App}
use Rattle.eos_fold.specs.declared.item.Item.{Item}
use Rattle.eos_fold.specs.Parts.{part_name, PartLog}
use Rattle.eos_claims.specs.declared.place.Place.{Place}
use Rattle.eos_claims.specs.declared.place.PlaceRef.{PlaceRef}
use Rattle.eos_claims.specs.declared.alone.SourceTests.{SourceTests}
use Rattle.eos_claims.specs.declared.claim.ClaimRef.{ClaimRef}
use Rattle.eos_claims.specs.declared.fault.OutputFault.{OutputFault}
use Rattle.eos_claims.specs.declared.neighbours.NumberedClaim.{NumberedClaim}
use Rattle.eos_claims.specs.Outputs.{Writer, PlacedClaim, Application, committed_offset}
use Rattle.eos_claims.specs.Faults.{place_cmp, fault_cmp, Stands}
use Rattle.eos_claims.specs.Candidates.{Counted, counted, shown_by, is_source, is_input, is_committed, names as names_input, passes}
use Rattle.eos_claims.specs.Plain.{plain_place, plain_fault, plain_claim}
use Rattle.eos_commits.specs.Commits.{commits_of}
use Rattle.eos_commits.specs.Plain.{plain_commit}
use Rattle.eos_commits.specs.Visible.{is_visible}
use Rattle.eos_commits.specs.Applications.{Topic, is_part_of, place_in, claims_at, inputs_below}
use Rattle.eos_lineage.specs.Lineage.{outputs_in}
use Rattle.eos_lineage.specs.declared.tables.Tables.{Tables}
use Rattle.eos_lineage.specs.declared.tables.Known.{Known}
use Rattle.eos_lineage.specs.declared.claims.Walk.{Walk}
use Rattle.eos_lineage.specs.declared.claims.Output.{Output}
use Rattle.eos_lineage.specs.declared.claims.PlacedRef.{PlacedRef}
use Rattle.eos_lineage.specs.declared.pipeline.Pipeline.{Pipeline}
use Rattle.eos_commits.specs.NameTables.{AreAscending}
use Rattle.eos_lineage.specs.steps.Tables.{passes_of}

-- ---- what records give

abbrev pub input_at : PartitionName → Item → List Place
input_at n x = if is_visible x.fate then place_in n x ∷ [] else []

abbrev pub inputs_at : List Topic → PartLog → List Place
inputs_at topics p = if is_part_of topics p then flat_map (input_at (part_name p)) p.items else []

abbrev pub claim_at : PartitionName → Item → List PlacedClaim
claim_at n x = if is_visible x.fate then claims_at n x else []

abbrev pub claims_of_part : List Topic → PartLog → List PlacedClaim
claims_of_part topics p = if is_part_of topics p then flat_map (claim_at (part_name p)) p.items else []

abbrev pub output_claims : Output → List PlacedClaim
output_claims o = flat_map (claim_at o.name.now) o.part.now.items

-- ---- the tables of an application

abbrev pub by_place : PlaceRef → PlaceRef → Ordering
by_place a b = place_cmp (plain_place a) (plain_place b)

pub record AreTables (a : Application) (t : Tables) : Type 0 where
  pub names : AreAscending t.names.now
  pub sources : IsPermutation a.sources t.sources.now
  pub inputs : map plain_place t.inputs.now ≡ a.inputs
  pub in_order : IsSorted by_place t.inputs.now
  pub named : (i : Place) → Has a.inputs i → Has t.names.now i.partition
  pub offsets : t.offsets.now ≡ map (committed_offset a.commits) t.names.now
  pub passes : IsPermutation (flat_map passes_of a.commits) t.passes.now

-- what goes through an application, by these logs
pub record IsPipelineOf (app : App) (ps : List PartLog) (p : Pipeline) : Type 0 where
  pub sources : IsPermutation app.sources p.sources
  pub outputs : IsPermutation app.outputs p.outputs
  pub commits : map plain_commit p.commits.items ≡ commits_of app.group app.sources ps

-- below the committed offset, where there is one
abbrev pub is_below_in : Option ℤ → ℕ → Bool
is_below_in None o = false
is_below_in (Some top) o = int_lt (pos o) top

-- what is known of a place: nothing of one that is no input
abbrev pub KnowsPlace : Application → Place → Option Known → Type 0
KnowsPlace a i None = is_input a i ≡ false
KnowsPlace a i (Some k) = (plain_place k.place ≡ i) × (k.is_input ≡ is_input a i) × (k.is_committed ≡ is_committed a i)

abbrev pub flags_of : Option Known → Bool × Bool
flags_of None = (false, false)
flags_of (Some k) = (k.is_input, k.is_committed)

pub record AreTests (a : Application) (i : Place) (w : Option Writer) (t : SourceTests) : Type 0 where
  pub source : t.is_source ≡ is_source a i
  pub input : t.is_input ≡ is_input a i
  pub committed : t.is_input ≡ true → t.is_committed ≡ is_committed a i
  pub passed : t.is_passed ≡ list_any (passes w i) a.commits

-- ---- the walk over claims

abbrev pub placed_ref : ClaimRef → PlaceRef → Option Writer → PlacedClaim
placed_ref c at w = record { source = record { partition = record { topic = c.topic.now; partition = c.partition }; offset = c.offset }; output = c.output; of = c.of; at = plain_place at; writer = w }

abbrev pub plain_placed : PlacedRef → PlacedClaim
plain_placed p = placed_ref p.claim p.at p.writer

abbrev pub counted_ref : ClaimRef → PlaceRef → Counted
counted_ref c at = counted (placed_ref c at None)

-- the least fault so far, and the claims of inputs below their committed offsets
pub record WalkView : Type 0 where
  pub best : Option OutputFault
  pub below : List Counted

abbrev pub plain_walk : Walk → WalkView
plain_walk w = record { best = option_map plain_fault w.best; below = map plain_claim w.below.items }

abbrev pub begun : WalkView
begun = record { best = None; below = [] }

abbrev pub is_below : Application → PlacedClaim → Bool
is_below a c = is_input a c.source && is_committed a c.source

-- the claim, where its input is known to be below its committed offset
abbrev pub kept_of : Option Known → Counted → List Counted
kept_of None n = []
kept_of (Some k) n = if k.is_input && k.is_committed then record { source = plain_place k.place; output = n.output; of = n.of; at = n.at } ∷ [] else []

-- these claims were taken
pub record HasWalked (a : Application) (before after : WalkView) (cs : List PlacedClaim) : Type 0 where
  pub best : after.best ≡ fold (lesser_of fault_cmp) before.best (flat_map (shown_by a) cs)
  pub below : after.below ≡ before.below ++ map counted (filter (is_below a) cs)

-- ---- the walk over inputs

abbrev pub claim_order : Counted → Counted → Ordering
claim_order = then_cmp (on (λ c. c.source) place_cmp) (then_cmp (on (λ c. c.output) nat_cmp) (then_cmp (on (λ c. c.at) place_cmp) (on (λ c. c.of) nat_cmp)))

abbrev pub by_claim : NumberedClaim → NumberedClaim → Ordering
by_claim a b = claim_order (plain_claim a) (plain_claim b)

abbrev pub by_source : NumberedClaim → NumberedClaim → Ordering
by_source a b = by_place a.source b.source

-- one of the claims is of this input
abbrev pub is_named : List NumberedClaim → Place → Bool
is_named cs i = list_any (λ c. is_eq (place_cmp (plain_place c.source) i)) cs

-- an input below its committed offset is claimed exactly where one of these is of it
pub record AreNamed (a : Application) (cs : List NumberedClaim) : Type 0 where
  pub in_order : IsSorted by_source cs
  pub named : (i : Place) → Has a.inputs i → is_committed a i ≡ true → is_named cs i ≡ list_any (names_input i) a.claims

-- ---- counts and the answer

abbrev pub one_if : Bool → ℕ
one_if true = 1
one_if false = 0

abbrev pub is_no_note : Counted → Bool
is_no_note n = not ((n.output == 0) && (n.of == 0))

abbrev pub IsOutputsAnswer : Application → Option OutputFault → ℕ → ℕ → Type 0
IsOutputsAnswer a None inputs outputs = NoneStands (Stands a) × (inputs ≡ length (inputs_below a)) × (outputs ≡ length (outputs_in a))
IsOutputsAnswer a (Some f) inputs outputs = IsLeast fault_cmp (Stands a) f
