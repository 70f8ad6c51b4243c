use Rattle.std.proofs.Common.{Option}
use Rattle.eos_claims.specs.declared.place.Place.{Place}
use Rattle.eos_picture.specs.steps.Spots.{StartsAt}
use Rattle.eos_picture.proofs.past.push_past.Given as goal

abbrev pub invariant-loop-part : goal.invariant-loop-part
invariant-loop-part l = (at : Option Place) → StartsAt l.fn.spots.items at → StartsAt l.spots.items at
