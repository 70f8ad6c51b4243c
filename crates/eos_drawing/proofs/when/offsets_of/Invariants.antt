use Rattle.std.proofs.Common.{◌≡◌, ◌++◌, drop}
use Rattle.eos_drawing.specs.Whens.{offsets_of}
use Rattle.eos_drawing.proofs.when.offsets_of.Given as goal

-- those put there, and those that are left
abbrev pub invariant-loop-mark : goal.invariant-loop-mark
invariant-loop-mark l = l.offsets.items ++ offsets_of (drop l.mark-index l.marks) ≡ offsets_of l.marks
