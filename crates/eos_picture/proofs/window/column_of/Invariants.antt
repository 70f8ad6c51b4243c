use Rattle.std.proofs.Common.{◌<◌, ℕ, slice_get}
use Rattle.eos_picture.specs.Signs.{IsOfWriter}
use Rattle.eos_picture.proofs.window.column_of.Given as goal

abbrev pub invariant-loop-i : goal.invariant-loop-i
invariant-loop-i l = (j : ℕ) → j < l.i → IsOfWriter (slice_get l.columns j) l.writer → ⊥
