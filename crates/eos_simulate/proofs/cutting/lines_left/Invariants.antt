-- The lines so far are a part of what was passed.
use Rattle.std.proofs.Common.{take}
use Rattle.eos_simulate.specs.Parts.{IsPartOf, unnamed_deeds, unnamed_lines}
use Rattle.eos_simulate.proofs.cutting.lines_left.Given as goal

abbrev pub invariant-loop-place : goal.invariant-loop-place
invariant-loop-place l = IsPartOf (unnamed_lines l.lines) (unnamed_deeds (take l.place l.deeds))
