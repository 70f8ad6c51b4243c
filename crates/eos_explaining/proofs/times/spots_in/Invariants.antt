use Rattle.std.proofs.Common.{◌≡◌, map, take}
use Rattle.eos_explaining.specs.steps.Times.{spot_in}
use Rattle.eos_explaining.proofs.times.spots_in.Given as goal

abbrev pub invariant-loop-row : goal.invariant-loop-row
invariant-loop-row l = l.places.items ≡ map (spot_in l.name) (take l.row-index l.rows)
