use Rattle.std.proofs.Common.{Option, length}
use Rattle.eos_claims.specs.declared.place.Place.{Place}
use Rattle.eos_picture.specs.steps.Spots.{StartsAt}
use Rattle.eos_picture.proofs.outputs.push_claims_in.Given as goal

abbrev pub invariant-loop-item : goal.invariant-loop-item
invariant-loop-item l = (at : Option Place) → StartsAt l.fn.spots.items at → StartsAt l.spots.items at

abbrev pub decreases-loop-item : goal.decreases-loop-item
decreases-loop-item l = length l.items
