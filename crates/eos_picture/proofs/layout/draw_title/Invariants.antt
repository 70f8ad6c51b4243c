use Rattle.std.proofs.Common.{◌≡◌, length}
use Rattle.eos_picture.specs.Told.{tellings}
use Rattle.eos_picture.proofs.layout.draw_title.Given as goal

abbrev pub invariant-loop-rest : goal.invariant-loop-rest
invariant-loop-rest l = tellings l.canvas.shapes.items ≡ tellings l.fn.canvas.shapes.items

abbrev pub decreases-loop-rest : goal.decreases-loop-rest
decreases-loop-rest l = length l.rest
