use Rattle.std.proofs.Common.{◌≡◌, ◌++◌, drop}
use Rattle.std.specs.List.{flat_map}
use Rattle.eos_picture.specs.Window.{at_place}
use Rattle.eos_picture.proofs.chosen.columns_at.Given as goal

-- what is left
abbrev pub invariant-loop-place : goal.invariant-loop-place
invariant-loop-place l = l.shown.items ++ flat_map (at_place l.columns) (drop l.place-index l.places) ≡ flat_map (at_place l.columns) l.places
