-- The faults of an application's outputs, and their order: by source, output number, kind and place of the claim.
use Rattle.std.specs.Prelude.{◌≡◌, ◌≢◌, ◌⊎◌, ℕ, ◌≤◌, ◌<◌, pos, ◌≤ℤ◌, List, codes, Some, None}
use Rattle.std.specs.Ordering.{nat_cmp, on, then_cmp}
use Rattle.std.specs.declared.cmp.Ordering.{Ordering}
use Rattle.std.specs.declared.cmp.Ordering.TheVariants.{Less}
use Rattle.eos_base.specs.Members.{Has}
use Rattle.eos_base.specs.Least.{UpTo}
use Rattle.eos_claims.specs.declared.place.Place.{Place}
use Rattle.eos_claims.specs.declared.fault.OutputFault.{OutputFault}
use Rattle.eos_claims.specs.declared.fault.OutputKind.{OutputKind}
use Rattle.eos_claims.specs.declared.fault.OutputKind.TheVariants.{ForeignSource, NoSuchInput, Early, CountDisagrees, NumberRange, Repeated, Missing, OtherTransaction}
use Rattle.eos_claims.specs.contracts.fault.OutputFaultOrd.TheImpl.{ghosts as fault_ghosts}
use Rattle.eos_claims.specs.contracts.place.PlaceOrd.TheImpl.{ghosts as place_ghosts}
use Rattle.eos_claims.specs.Outputs.{PlacedClaim, Application, committed_offset, IsBelow, Names, IsPassed}

-- the derived order: by the partition's name, then the offset, as the fields stand
abbrev pub place_cmp : Place → Place → Ordering
place_cmp = place_ghosts.cmp

-- the claims of one source: by output number, then place
abbrev pub number_cmp : PlacedClaim → PlacedClaim → Ordering
number_cmp = then_cmp (on (λ claim. claim.output) nat_cmp) (on (λ claim. claim.at) place_cmp)

pub record IsLeastClaim (app : Application) (input : Place) (claim : PlacedClaim) : Type 0 where
  pub names : Names app input claim
  pub least : (other : PlacedClaim) → Names app input other → UpTo number_cmp claim other

-- a claim of the fault's source and number, at the fault's place
pub record AtClaim (app : Application) (fault : OutputFault) : Type 0 where
  pub claim : PlacedClaim
  pub has : Has app.claims claim
  pub source : claim.source ≡ fault.source
  pub output : claim.output ≡ fault.output
  pub at : fault.at ≡ Some claim.at

-- not in 1 to `of`, nor the note 0 of 0
abbrev pub IsOutOfRange : ℕ → ℕ → Type 0
IsOutOfRange of output = ((of ≡ 0) × (1 ≤ output)) ⊎ ((1 ≤ of) × ((output < 1) ⊎ (of < output)))

-- the number up to which outputs of an input are looked for: what its least claim says, and 1 where it has no claim
abbrev pub IsTop : Application → Place → ℕ → Type 0
IsTop app input top = ((claim : PlacedClaim) × IsLeastClaim app input claim × (claim.of ≡ top)) ⊎ (((claim : PlacedClaim) → Names app input claim → ⊥) × (top ≡ 1))

pub record IsMissing (app : Application) (fault : OutputFault) : Type 0 where
  pub below : IsBelow app fault.source
  pub top : ℕ
  pub is_top : IsTop app fault.source top
  pub first : 1 ≤ fault.output
  pub last : fault.output ≤ top
  pub absent : (claim : PlacedClaim) → Names app fault.source claim → claim.output ≢ fault.output
  pub at : fault.at ≡ None

abbrev pub StandsAs : Application → OutputFault → OutputKind → Type 0
StandsAs app fault ForeignSource = AtClaim app fault × (Has app.sources fault.source.partition.topic → ⊥)
StandsAs app fault NoSuchInput = AtClaim app fault × Has app.sources fault.source.partition.topic × (Has app.inputs fault.source → ⊥)
StandsAs app fault Early = AtClaim app fault × Has app.inputs fault.source × (committed_offset app.commits fault.source.partition ≤ℤ pos fault.source.offset)
StandsAs app fault CountDisagrees = (at : AtClaim app fault) × (least : PlacedClaim) × IsLeastClaim app fault.source least × (at.claim.of ≢ least.of)
StandsAs app fault NumberRange = (at : AtClaim app fault) × IsOutOfRange at.claim.of fault.output
StandsAs app fault Repeated = (at : AtClaim app fault) × (other : PlacedClaim) × Names app fault.source other × (other.output ≡ fault.output) × (place_cmp other.at at.claim.at ≡ Less)
StandsAs app fault Missing = IsMissing app fault
StandsAs app fault OtherTransaction = (at : AtClaim app fault) × IsBelow app fault.source × (IsPassed app at.claim → ⊥)

abbrev pub Stands : Application → OutputFault → Type 0
Stands app fault = StandsAs app fault fault.kind

-- the derived order: by the fields as they stand, input, output number, kind and place of the claim; kinds as they stand there too
abbrev pub fault_cmp : OutputFault → OutputFault → Ordering
fault_cmp = fault_ghosts.cmp

-- number and name, a line for each kind
abbrev pub row_of : OutputKind → ℕ × List ℕ
row_of ForeignSource = (5, codes "ForeignSource")
row_of NoSuchInput = (6, codes "NoSuchInput")
row_of Early = (7, codes "Early")
row_of CountDisagrees = (8, codes "CountDisagrees")
row_of NumberRange = (9, codes "NumberRange")
row_of Repeated = (10, codes "Repeated")
row_of Missing = (11, codes "Missing")
row_of OtherTransaction = (12, codes "OtherTransaction")

abbrev pub number_of : OutputKind → ℕ
number_of kind = (row_of kind).0

abbrev pub name_of : OutputKind → List ℕ
name_of kind = (row_of kind).1
