-- The faults of one application's outputs, source by source: those of the claims and inputs that were passed are told, and what is left
-- is of later sources.
use Rattle.std.specs.Prelude.{◌≡◌, ◌⊎◌, ◌≤◌, ◌<◌, ℕ, Option, Some, None, List, length, map, take, slice_get}
use Rattle.std.specs.List.Sorted.{IsStrictlySortedBy}
use Rattle.std.specs.declared.cmp.Ordering.{Ordering}
use Rattle.std.specs.declared.cmp.Ordering.TheVariants.{Less}
use Rattle.eos_base.specs.Least.{UpTo}
use Rattle.eos_base.specs.Members.{Has}
use Rattle.eos_claims.specs.declared.fault.OutputFault.{OutputFault}
use Rattle.eos_claims.specs.declared.place.Place.{Place}
use Rattle.eos_claims.specs.Outputs.{Application}
use Rattle.eos_claims.specs.Faults.{place_cmp, fault_cmp}
use Rattle.eos_faults.specs.declared.lent.LentPlace.{LentPlace}
use Rattle.eos_faults.specs.declared.lent.VisibleClaim.{VisibleClaim}
use Rattle.eos_faults.specs.contracts.lent.LentPlaceOrd.TheImpl.{ghosts as place_ghosts}
use Rattle.eos_faults.specs.steps.OutputFaultsGathered.{gathered_by}
use Rattle.eos_faults.specs.steps.Plain.{claim_at, place_at}

abbrev pub by_lent : LentPlace → LentPlace → Ordering
by_lent = place_ghosts.cmp

abbrev pub source_of : VisibleClaim → LentPlace
source_of c = c.source

abbrev pub itself : LentPlace → LentPlace
itself i = i

-- this is the lesser source of the next claim and the next input
abbrev pub IsNext : Option VisibleClaim → Option LentPlace → Option LentPlace → Type 0
IsNext None None next = next ≡ None
IsNext (Some c) None next = next ≡ Some c.source
IsNext None (Some i) next = next ≡ Some i
IsNext (Some c) (Some i) next = ((next ≡ Some c.source) × UpTo place_cmp (place_at c.source) (place_at i)) ⊎ ((next ≡ Some i) × UpTo place_cmp (place_at i) (place_at c.source))

-- what holds of the items from one place up to another
abbrev pub AllFrom : {X : Type 0} → (X → Type 0) → List X → ℕ → ℕ → Type 0
AllFrom {X} P xs from to = (k : ℕ) (x : X) → from ≤ k → k < to → slice_get xs k ≡ Some x → P x

-- from this item on, those up to a place end here
pub record IsEndOf {X : Type 0} (of : X → LentPlace) (xs : List X) (from : ℕ) (s : LentPlace) (to : ℕ) : Type 0 where
  pub further : from ≤ to
  pub within : to ≤ length xs
  pub up_to : AllFrom (λ x. UpTo place_cmp (place_at (of x)) (place_at s)) xs from to
  pub beyond : AllFrom (λ x. place_cmp (place_at s) (place_at (of x)) ≡ Less) xs to (length xs)

-- a place before those of the items from here on
abbrev pub IsBefore : {X : Type 0} → (X → LentPlace) → List X → ℕ → Place → Type 0
IsBefore of xs from p = AllFrom (λ x. place_cmp p (place_at (of x)) ≡ Less) xs from (length xs)

-- the list has what so many of the claims and so many of the inputs show
pub record AreTold (a : Application) (cs : List VisibleClaim) (is : List LentPlace) (j k : ℕ) (list : List OutputFault) : Type 0 where
  pub rises : IsStrictlySortedBy fault_cmp list
  pub each : (f : OutputFault) → Has list f → Has (gathered_by a (map claim_at (take j cs)) (map place_at (take k is))) f
  pub all : (f : OutputFault) → Has (gathered_by a (map claim_at (take j cs)) (map place_at (take k is))) f → Has list f
  pub before_claims : (f : OutputFault) → Has list f → IsBefore source_of cs j f.source
  pub before_inputs : (f : OutputFault) → Has list f → IsBefore itself is k f.source

abbrev pub IsBeforeBoth : List VisibleClaim → List LentPlace → ℕ → ℕ → Place → Type 0
IsBeforeBoth cs is j k p = IsBefore source_of cs j p × IsBefore itself is k p

-- the claims and inputs in front of these indexes are of sources before all that is left
pub record ArePassed (cs : List VisibleClaim) (is : List LentPlace) (j k : ℕ) : Type 0 where
  pub claims : AllFrom (λ c. IsBeforeBoth cs is j k (place_at c.source)) cs 0 j
  pub inputs : AllFrom (λ i. IsBeforeBoth cs is j k (place_at i)) is 0 k
