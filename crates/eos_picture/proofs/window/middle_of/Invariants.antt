use Rattle.std.proofs.Common.{◌≡◌, ◌⊎◌, Some, None}
use Rattle.eos_claims.specs.declared.place.Place.{Place}
use Rattle.eos_picture.specs.Window.{IsOfRecordAt}
use Rattle.eos_picture.specs.steps.Spots.{StartsAt}
use Rattle.eos_picture.proofs.window.middle_of.Given as goal

abbrev pub invariant-loop-spot : goal.invariant-loop-spot
invariant-loop-spot l = (at : Place) → StartsAt l.spots (Some at) → (l.spot-index ≡ 0) ⊎ IsOfRecordAt l.logs l.columns None at
