-- No mark stands so far.
use Rattle.std.proofs.Common.{◌≡◌, false, take}
use Rattle.eos_manifest.specs.steps.Pieces.{has_mark}
use Rattle.eos_manifest.proofs.divided.first_piece.Given as goal

abbrev pub invariant-loop-i : goal.invariant-loop-i
invariant-loop-i l = has_mark l.mark (take l.i l.text) ≡ false
