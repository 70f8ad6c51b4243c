use Rattle.std.proofs.Common.{◌≡◌}
use Rattle.eos_picture.specs.Told.{tellings}
use Rattle.eos_picture.proofs.layout.draw_ground.Given as goal

abbrev pub invariant-loop-i : goal.invariant-loop-i
invariant-loop-i l = tellings l.ground.shapes.items ≡ tellings l.fn.ground.shapes.items
