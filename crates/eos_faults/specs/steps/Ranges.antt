-- Ranges of sources, which are taken one after the other: what an application has in one, and the faults of those that were taken.
use Rattle.std.specs.Prelude.{◌≡◌, ◌⊎◌, ℕ, zero, suc, Bool, true, false, not, ◌&&◌, Option, Some, None, List, [], ◌∷◌, filter, slice_get}
use Rattle.std.specs.List.Sorted.{IsStrictlySortedBy}
use Rattle.std.specs.Ordering.{is_lt}
use Rattle.eos_base.specs.Members.{Has}
use Rattle.eos_claims.specs.declared.fault.OutputFault.{OutputFault}
use Rattle.eos_claims.specs.declared.place.Place.{Place}
use Rattle.eos_claims.specs.Outputs.{Application, PlacedClaim}
use Rattle.eos_claims.specs.Faults.{place_cmp, fault_cmp, Stands}
use Rattle.eos_faults.specs.declared.lent.LentPlace.{LentPlace}
use Rattle.eos_faults.specs.declared.ranges.Range.{Range}
use Rattle.eos_faults.specs.OneInput.{OfOneInput}
use Rattle.eos_faults.specs.steps.OutputFaultsGathered.{HasEarlier}
use Rattle.eos_faults.specs.steps.Plain.{place_at}

-- ---- a range

abbrev pub is_below : LentPlace → Place → Bool
is_below bound p = is_lt (place_cmp p (place_at bound))

-- before the place where a range begins: none, where it begins at the first
abbrev pub is_done : Option LentPlace → Place → Bool
is_done None p = false
is_done (Some from) p = is_below from p

-- before the place where a range ends: all, where it ends with the last
abbrev pub is_before_end : Option LentPlace → Place → Bool
is_before_end None p = true
is_before_end (Some end) p = is_below end p

abbrev pub is_within : Range → Place → Bool
is_within r p = not (is_done r.from p) && is_before_end r.below p

-- ---- those between bounds that rise

-- the bound where the range of this number begins: there is none for the first
abbrev pub bound_before : List LentPlace → ℕ → Option LentPlace
bound_before bounds zero = None
bound_before bounds (suc n) = slice_get bounds n

abbrev pub range_at : List LentPlace → ℕ → Range
range_at bounds n = record { from = bound_before bounds n; below = slice_get bounds n }

-- in one of the first so many
abbrev pub is_up_to : List LentPlace → ℕ → Place → Bool
is_up_to bounds zero p = false
is_up_to bounds (suc n) p = is_before_end (slice_get bounds n) p

-- ---- what an application has there

abbrev pub is_source_in : (Place → Bool) → PlacedClaim → Bool
is_source_in within c = within c.source

abbrev pub is_source_within : Range → PlacedClaim → Bool
is_source_within r = is_source_in (is_within r)

-- the same application, with the claims and inputs of these sources alone
abbrev pub restricted : (Place → Bool) → Application → Application
restricted within a = record { sources = a.sources; inputs = filter within a.inputs; commits = a.commits; claims = filter (is_source_in within) a.claims }

-- all faults of these sources, but of the outputs that one input lacks the first alone
pub record AreFaultsWithin (within : Place → Bool) (a : Application) (list : List OutputFault) : Type 0 where
  pub rises : IsStrictlySortedBy fault_cmp list
  pub each : (f : OutputFault) → Has list f → Stands a f × (within f.source ≡ true)
  pub all : (f : OutputFault) → Stands a f → within f.source ≡ true → Has list f ⊎ HasEarlier list f
  pub one_missing : (f g : OutputFault) → Has list f → Has list g → OfOneInput f g → f ≡ g

-- ---- one or none

abbrev pub listed : {X : Type 0} → Option X → List X
listed None = []
listed (Some x) = x ∷ []
