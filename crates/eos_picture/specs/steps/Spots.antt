-- Of the places of a fault the first.
use Rattle.std.specs.Prelude.{◌≡◌, ⊤, List, ◌∷◌, Option, Some, None}
use Rattle.eos_claims.specs.declared.place.Place.{Place}
use Rattle.eos_picture.specs.declared.spots.At.TheVariants as ats
use Rattle.eos_picture.specs.declared.spots.Spot.{Spot}

abbrev pub spot_at : Place → Spot
spot_at at = record { name = at.partition; at = ats.Offset at.offset }

-- the first of the spots is this place, if there is one
abbrev pub StartsAt : List Spot → Option Place → Type 0
StartsAt spots None = ⊤
StartsAt spots (Some at) = (rest : List Spot) × (spots ≡ spot_at at ∷ rest)
