use Rattle.std.proofs.Common.{◌≡◌, ◌++◌, drop, string_bytes}
use Rattle.std.specs.List.{flat_map}
use Rattle.eos_picture.specs.Shapes.{shape_text}
use Rattle.eos_picture.proofs.drawing.push_shapes.Given as goal

abbrev pub invariant-loop-shape : goal.invariant-loop-shape
invariant-loop-shape l = string_bytes l.out ++ flat_map shape_text (drop l.shape-index l.shapes) ≡ string_bytes l.fn.out ++ flat_map shape_text l.shapes
