use Rattle.std.proofs.Common.{◌≡◌}
use Rattle.eos_picture.specs.Told.{tellings}
use Rattle.eos_picture.proofs.canvas.Canvas.arcs.Given as goal

abbrev pub invariant-loop-i : goal.invariant-loop-i
invariant-loop-i l = tellings l.self.shapes.items ≡ tellings l.fn.self.shapes.items
