-- The batches that are left say what all of them say.
use Rattle.std.proofs.Common.{◌≡◌, drop}
use Rattle.eos_simulate.specs.Cleaning.{is_aborted_in}
use Rattle.eos_simulate.proofs.cleaning.is_aborted_in.Given as goal

abbrev pub invariant-loop-logged : goal.invariant-loop-logged
invariant-loop-logged l = is_aborted_in l.producer l.later ≡ is_aborted_in l.producer (drop l.logged-index l.later)
