-- The batches that are left say what all of them say.
use Rattle.std.proofs.Common.{◌≡◌, drop}
use Rattle.eos_simulate.specs.Cleaning.{is_superseded}
use Rattle.eos_simulate.proofs.cleaning.is_superseded.Given as goal

abbrev pub invariant-loop-i : goal.invariant-loop-i
invariant-loop-i l = is_superseded l.key l.later ≡ is_superseded l.key (drop l.i l.later)
