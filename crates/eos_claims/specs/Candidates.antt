-- The faults among which the least is looked for: what each claim shows by itself, what two neighbours show in the order of
-- claims, and the inputs that nothing claims. Each goes after a fault that stands, and each fault that stands after one of them.
use Rattle.std.specs.Prelude.{⊤, ◌≡◌, ℕ, ◌+◌, pos, List, [], ◌∷◌, ◌++◌, flat_map, Option, Some, None, Bool, false, not, ◌&&◌, ◌||◌, ◌==◌, nat_lt, int_lt, if◌then◌else◌}
use Rattle.std.specs.List.{list_any}
use Rattle.std.specs.Ordering.{nat_cmp, int_cmp, is_eq, is_lt, on, then_cmp}
use Rattle.std.specs.declared.cmp.Ordering.{Ordering}
use Rattle.std.specs.Cmp.Lexicographic.{slice_cmp}
use Rattle.eos_base.specs.Members.{Has, is_found}
use Rattle.eos_base.specs.PartitionNames.{name_cmp}
use Rattle.eos_base.specs.Least.{UpTo}
use Rattle.eos_claims.specs.declared.place.Place.{Place}
use Rattle.eos_claims.specs.declared.fault.OutputFault.{OutputFault}
use Rattle.eos_claims.specs.declared.fault.OutputKind.{OutputKind}
use Rattle.eos_claims.specs.declared.fault.OutputKind.TheVariants.{ForeignSource, NoSuchInput, Early, CountDisagrees, NumberRange, Repeated, Missing, OtherTransaction}
use Rattle.eos_claims.specs.Outputs.{Writer, PlacedClaim, Commit, Application, committed_offset, IsBelow}
use Rattle.eos_claims.specs.Faults.{place_cmp}

-- a claim without its writer
pub record Counted : Type 0 where
  pub source : Place
  pub output : ℕ
  pub of : ℕ
  pub at : Place

abbrev pub counted : PlacedClaim → Counted
counted claim = record { source = claim.source; output = claim.output; of = claim.of; at = claim.at }

-- by source, output number, place
abbrev pub claim_cmp : Counted → Counted → Ordering
claim_cmp = then_cmp (on (λ claim. claim.source) place_cmp) (then_cmp (on (λ claim. claim.output) nat_cmp) (on (λ claim. claim.at) place_cmp))

abbrev pub fault_at : OutputKind → Counted → OutputFault
fault_at kind claim = record { source = claim.source; output = claim.output; kind = kind; at = Some claim.at }

abbrev pub missing : Place → ℕ → OutputFault
missing input output = record { source = input; output = output; kind = Missing; at = None }

abbrev pub when : Bool → OutputFault → List OutputFault
when stands fault = if stands then fault ∷ [] else []

-- ---- neighbours

-- the first claim of a source, and the last
abbrev pub at_start : Counted → List OutputFault
at_start claim = when (nat_lt 1 claim.output && nat_lt 0 claim.of) (missing claim.source 1)

abbrev pub at_end : Counted → List OutputFault
at_end claim = when (nat_lt claim.output claim.of) (missing claim.source (claim.output + 1))

-- two claims of one source, the first before the second
abbrev pub in_run : Counted → Counted → List OutputFault
in_run claim next = when (not (claim.of == next.of)) (fault_at CountDisagrees next)
    ++ (when ((claim.output == next.output) && is_lt (place_cmp claim.at next.at)) (fault_at Repeated next)
    ++ when (nat_lt (claim.output + 1) next.output && nat_lt claim.output claim.of) (missing claim.source (claim.output + 1)))

abbrev pub between : Counted → Counted → List OutputFault
between claim next = if is_eq (place_cmp claim.source next.source) then in_run claim next else at_end claim ++ at_start next

abbrev pub runs_after : Counted → List Counted → List OutputFault
runs_after claim [] = at_end claim
runs_after claim (next ∷ claims) = between claim next ++ runs_after next claims

abbrev pub runs : List Counted → List OutputFault
runs [] = []
runs (claim ∷ claims) = at_start claim ++ runs_after claim claims

-- ---- one claim

abbrev pub is_source : Application → Place → Bool
is_source app place = is_found (slice_cmp nat_cmp) app.sources place.partition.topic

abbrev pub is_input : Application → Place → Bool
is_input app place = is_found place_cmp app.inputs place

abbrev pub is_committed : Application → Place → Bool
is_committed app place = int_lt (pos place.offset) (committed_offset app.commits place.partition)

abbrev pub is_out_of_range : ℕ → ℕ → Bool
is_out_of_range of output = ((of == 0) && nat_lt 0 output) || (nat_lt 0 of && ((output == 0) || nat_lt of output))

abbrev pub is_by : Option Writer → Writer → Bool
is_by None writer = false
is_by (Some other) writer = is_eq (int_cmp other.0 writer.0) && is_eq (int_cmp other.1 writer.1)

-- the commit is of this writer, and goes past the input
abbrev pub passes : Option Writer → Place → Commit → Bool
passes None input commit = false
passes (Some writer) input commit = is_by commit.writer writer && (is_eq (name_cmp commit.partition input.partition) && int_lt (pos input.offset) commit.offset)

abbrev pub is_passed : Application → PlacedClaim → Bool
is_passed app claim = list_any (passes claim.writer claim.source) app.commits

-- by whether its topic is a source, its place an input, its offset committed, its number out of range, and its input passed
abbrev pub shown : Bool → Bool → Bool → Bool → Bool → Counted → List OutputFault
shown source input committed out_of_range passed claim =
    if not source then fault_at ForeignSource claim ∷ [] else
    if not input then fault_at NoSuchInput claim ∷ [] else
    if not committed then fault_at Early claim ∷ [] else
    when out_of_range (fault_at NumberRange claim) ++ when (not passed) (fault_at OtherTransaction claim)

abbrev pub shown_by : Application → PlacedClaim → List OutputFault
shown_by app claim =
    shown (is_source app claim.source) (is_input app claim.source) (is_committed app claim.source) (is_out_of_range claim.of claim.output) (is_passed app claim) (counted claim)

-- ---- inputs

abbrev pub names : Place → PlacedClaim → Bool
names input claim = is_eq (place_cmp claim.source input)

abbrev pub unclaimed : Application → Place → List OutputFault
unclaimed app input = when (is_committed app input && not (list_any (names input) app.claims)) (missing input 1)

-- ---- all

-- the claims of inputs below their committed offsets, in order
abbrev pub IsInOrder : {X : Type 0} → (X → X → Ordering) → List X → Type 0
IsInOrder cmp [] = ⊤
IsInOrder {X} cmp (x ∷ xs) = ((y : X) → Has xs y → UpTo cmp x y) × IsInOrder cmp xs

pub record AreBelow (app : Application) (below : List Counted) : Type 0 where
  pub in_order : IsInOrder claim_cmp below
  pub sound : (n : Counted) → Has below n → (claim : PlacedClaim) × Has app.claims claim × (counted claim ≡ n) × IsBelow app claim.source
  pub whole : (claim : PlacedClaim) → Has app.claims claim → IsBelow app claim.source → Has below (counted claim)

-- no two claims stand at one place
abbrev pub AreApart : Application → Type 0
AreApart app = (claim other : PlacedClaim) → Has app.claims claim → Has app.claims other → claim.at ≡ other.at → claim ≡ other

abbrev pub candidates : Application → List Counted → List OutputFault
candidates app below = flat_map (shown_by app) app.claims ++ (runs below ++ flat_map (unclaimed app) app.inputs)
