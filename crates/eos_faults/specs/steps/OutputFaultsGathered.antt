-- What is gathered of one application's outputs: what each claim shows, by the first claim of its source and the first place of
-- its number, and of each input below its committed offset the first output that it lacks.
use Rattle.std.specs.Prelude.{◌≡◌, ◌⊎◌, ◌<◌, ℕ, zero, suc, ◌+◌, Bool, false, not, ◌&&◌, ◌==◌, Option, Some, None, is_some, List, [], ◌∷◌, ◌++◌, filter, flat_map, fold, if◌then◌else◌}
use Rattle.std.specs.List.Sorted.{IsStrictlySortedBy}
use Rattle.std.specs.Ordering.{nat_cmp, on, is_eq, is_lt}
use Rattle.std.specs.declared.cmp.Ordering.{Ordering}
use Rattle.eos_base.specs.Members.{Has}
use Rattle.eos_base.specs.Least.{lesser_of}
use Rattle.eos_claims.specs.declared.place.Place.{Place}
use Rattle.eos_claims.specs.declared.fault.OutputFault.{OutputFault}
use Rattle.eos_claims.specs.declared.fault.OutputKind.TheVariants.{ForeignSource, NoSuchInput, Early, CountDisagrees, NumberRange, Repeated, OtherTransaction}
use Rattle.eos_claims.specs.Outputs.{PlacedClaim, Application}
use Rattle.eos_claims.specs.Faults.{place_cmp, number_cmp, fault_cmp, Stands}
use Rattle.eos_claims.specs.Candidates.{Counted, counted, fault_at, missing, when, names, is_source, is_input, is_committed, is_out_of_range, is_passed}
use Rattle.eos_faults.specs.OneInput.{OfOneInput}

-- the least of those of which the test holds
abbrev pub least_where : {X : Type 0} → (X → Bool) → (X → X → Ordering) → List X → Option X
least_where test cmp xs = fold (lesser_of cmp) None (filter test xs)

-- the first claim of a source, by number and place
abbrev pub first_of : List PlacedClaim → Place → Option PlacedClaim
first_of cs i = least_where (names i) number_cmp cs

abbrev pub is_numbered : Place → ℕ → PlacedClaim → Bool
is_numbered i n c = names i c && is_eq (nat_cmp c.output n)

-- the first claim of a source and a number, by place
abbrev pub first_at : List PlacedClaim → Place → ℕ → Option PlacedClaim
first_at cs i n = least_where (is_numbered i n) (on (λ c. c.at) place_cmp) cs

-- ---- at a claim

-- by whether its topic is a source, its place an input, its offset committed, and its input passed
abbrev pub place_faults : Bool → Bool → Bool → Bool → Counted → List OutputFault
place_faults source input committed passed c =
    when (not source) (fault_at ForeignSource c)
    ++ (when (source && not input) (fault_at NoSuchInput c)
    ++ (when (input && not committed) (fault_at Early c)
    ++ when (input && (committed && not passed)) (fault_at OtherTransaction c)))

abbrev pub disagrees : Option PlacedClaim → ℕ → Bool
disagrees None of = false
disagrees (Some first) of = not (of == first.of)

abbrev pub is_repeated : Option PlacedClaim → Place → Bool
is_repeated None at = false
is_repeated (Some first) at = is_lt (place_cmp first.at at)

-- by whether its number is out of range, its count another than the first's, and its number an earlier claim's
abbrev pub number_faults : Bool → Bool → Bool → Counted → List OutputFault
number_faults out_of_range disagrees repeated c =
    when out_of_range (fault_at NumberRange c)
    ++ (when disagrees (fault_at CountDisagrees c) ++ when repeated (fault_at Repeated c))

abbrev pub placed_at : Application → PlacedClaim → List OutputFault
placed_at a c = place_faults (is_source a c.source) (is_input a c.source) (is_committed a c.source) (is_passed a c) (counted c)

abbrev pub numbered_at : Application → PlacedClaim → List OutputFault
numbered_at a c = number_faults (is_out_of_range c.of c.output) (disagrees (first_of a.claims c.source) c.of) (is_repeated (first_at a.claims c.source c.output) c.at) (counted c)

abbrev pub shown_at : Application → PlacedClaim → List OutputFault
shown_at a c = placed_at a c ++ numbered_at a c

-- ---- at an input

-- the first of so many numbers from one on that isn't there
abbrev pub first_absent : (ℕ → Bool) → ℕ → ℕ → Option ℕ
first_absent there zero n = None
first_absent there (suc count) n = if there n then first_absent there count (n + 1) else Some n

-- what the first claim says, and 1 where there is none
abbrev pub top_of : Option PlacedClaim → ℕ
top_of None = 1
top_of (Some first) = first.of

abbrev pub is_there : List PlacedClaim → Place → ℕ → Bool
is_there cs i n = is_some (first_at cs i n)

abbrev pub missing_at : Place → Option ℕ → List OutputFault
missing_at i None = []
missing_at i (Some n) = missing i n ∷ []

abbrev pub lacks : List PlacedClaim → Place → List OutputFault
lacks cs i = missing_at i (first_absent (is_there cs i) (top_of (first_of cs i)) 1)

abbrev pub lacking : Application → Place → List OutputFault
lacking a i = if is_committed a i then lacks a.claims i else []

-- ---- all that is gathered

-- at these claims and inputs
abbrev pub gathered_by : Application → List PlacedClaim → List Place → List OutputFault
gathered_by a claims inputs = flat_map (shown_at a) claims ++ flat_map (lacking a) inputs

abbrev pub gathered : Application → List OutputFault
gathered a = gathered_by a a.claims a.inputs

-- the list has an output of lesser number that the same input lacks
abbrev pub HasEarlier : List OutputFault → OutputFault → Type 0
HasEarlier list f = (g : OutputFault) × Has list g × OfOneInput g f × (g.output < f.output)

-- all faults of one application's outputs, but of those that one input lacks the first alone
pub record AreOutputFaults (a : Application) (list : List OutputFault) : Type 0 where
  pub rises : IsStrictlySortedBy fault_cmp list
  pub each : (f : OutputFault) → Has list f → Stands a f
  pub all : (f : OutputFault) → Stands a f → Has list f ⊎ HasEarlier list f
  pub one_missing : (f g : OutputFault) → Has list f → Has list g → OfOneInput f g → f ≡ g
