-- The claims of one source, in their order: the first of each number, and the numbers that are there.
use Rattle.std.specs.Prelude.{◌≡◌, ◌≢◌, ◌⊎◌, ◌≤◌, ◌<◌, ◌+◌, ℕ, Some, List, map, slice_get}
use Rattle.eos_base.specs.Least.{UpTo}
use Rattle.eos_base.specs.Members.{Has}
use Rattle.eos_claims.specs.declared.place.Place.{Place}
use Rattle.eos_claims.specs.Outputs.{Application, Names, PlacedClaim}
use Rattle.eos_claims.specs.Candidates.{claim_cmp, counted}
use Rattle.eos_faults.specs.declared.lent.LentPlace.{LentPlace}
use Rattle.eos_faults.specs.declared.lent.VisibleClaim.{VisibleClaim}
use Rattle.eos_faults.specs.steps.OutputFaultsGathered.{first_at}
use Rattle.eos_faults.specs.steps.Plain.{claim_at, place_at}

-- no claim is followed by a lesser one
abbrev pub DoRise : List VisibleClaim → Type 0
DoRise cs = (j k : ℕ) (c d : VisibleClaim) → j ≤ k → slice_get cs j ≡ Some c → slice_get cs k ≡ Some d → UpTo claim_cmp (counted (claim_at c)) (counted (claim_at d))

-- these are the application's claims of a source, in their order
pub record AreClaimsOf (a : Application) (i : Place) (cs : List VisibleClaim) : Type 0 where
  pub rise : DoRise cs
  pub sound : (c : VisibleClaim) → Has cs c → Names a i (claim_at c)
  pub whole : (c : PlacedClaim) → Names a i c → Has (map claim_at cs) c

-- these are the application's inputs at a place: some, where it is one
pub record AreInputsAt (a : Application) (i : Place) (xs : List LentPlace) : Type 0 where
  pub at : (x : LentPlace) → Has xs x → place_at x ≡ i
  pub sound : (x : LentPlace) → Has xs x → Has a.inputs i
  pub some : Has a.inputs i → (x : LentPlace) × Has xs x

-- ---- the first of each number

-- by the first of the number of the claim before
abbrev pub IsNextFirst : VisibleClaim → VisibleClaim → VisibleClaim → Type 0
IsNextFirst before c first = ((c.output ≡ before.output) × (first ≡ before)) ⊎ ((c.output ≢ before.output) × (first ≡ c))

-- it is the first of its number, and none in front of this index has a greater one
pub record IsFirstSoFar (a : Application) (i : Place) (cs : List VisibleClaim) (k : ℕ) (first : VisibleClaim) : Type 0 where
  pub index : ℕ
  pub within : index ≤ k
  pub at : slice_get cs index ≡ Some first
  pub is_first : Some (claim_at first) ≡ first_at a.claims i first.output
  pub greatest : (j : ℕ) (c : VisibleClaim) → j < k → slice_get cs j ≡ Some c → c.output ≤ first.output

-- ---- the numbers that are there

abbrev pub DoNumbersRise : List VisibleClaim → Type 0
DoNumbersRise cs = (j k : ℕ) (c d : VisibleClaim) → j ≤ k → slice_get cs j ≡ Some c → slice_get cs k ≡ Some d → c.output ≤ d.output

abbrev pub HasNumber : List VisibleClaim → ℕ → Type 0
HasNumber cs n = (c : VisibleClaim) × Has cs c × (c.output ≡ n)

-- each from one up to this number is there, and the next isn't
pub record IsLastThere (cs : List VisibleClaim) (last : ℕ) : Type 0 where
  pub each : (n : ℕ) → 1 ≤ n → n ≤ last → HasNumber cs n
  pub next : HasNumber cs (last + 1) → ⊥

-- the number, where it is the next
abbrev pub IsNextThere : ℕ → ℕ → ℕ → Type 0
IsNextThere last n now = ((n ≡ last + 1) × (now ≡ n)) ⊎ ((n ≢ last + 1) × (now ≡ last))
